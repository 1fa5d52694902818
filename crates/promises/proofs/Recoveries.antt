-- Demand 1, recovery: what it answers is what the table says of the log, the byte with it, and no other answer meets the table.
-- Assumes nothing.
use Prim.Native.Nat.{ℕ, ◌≤◌}
use mathlib.Core.Path.{◌≡◌, refl, sym, ap, ◌∙◌, subst}
use mathlib.Core.Bool.{Bool}
use mathlib.Core.List.{List}
use lib.Dec.{eqb, leb}
use borrow.Author.Tests.{leb-true}
use Rattle.loops.specs.Loop.{both}
use Rattle.loops.proofs.Tests.{is_false}
use Rattle.kinds.proofs.Answers.{unlike}
use Rattle.kinds.proofs.Editions.{of_terms}
use Rattle.kinds.specs.Names.{most_slots}
use Rattle.kinds.specs.Editions.{terms}
use Rattle.kinds.specs.declared.Terms.{Terms}
use Rattle.kinds.specs.Answers.{refuse}
use Rattle.kinds.specs.Answers.{Verdict}
use Rattle.std.specs.Prelude.{Ok, Err}
use Rattle.kinds.specs.Answers.{allowed}
use Rattle.lines.specs.Print.{Bytes}
use Rattle.model.specs.Acts.{Act}
use Rattle.model.specs.Image.{Image, partitions, slots, get, size}
use Rattle.model.specs.Judge.{check, in_limits, judge_format, judge}
use Rattle.writer.specs.Record.{Rule, terms_of}
use Rattle.journal.specs.Log.{replay, History}
use Rattle.journal.specs.Recover.{Recovered, judge_heading, recover_of, byte_of}
use Rattle.journal.specs.Refusals.{Refuses as Judges}
use Rattle.journal.proofs.AnyBytes.{any_bytes, refused_so}
use Rattle.journal.proofs.Demand.{kept_is}
use Rattle.journal.proofs.Locating.{located_refused, located_one}
use Rattle.journal.proofs.Placing.{Counted}
use Rattle.journal.proofs.Refusals.{refuses_as, refused_only}
use Rattle.promises.specs.Rows.{Found, WrongSize, act_rows}
use Rattle.promises.specs.Recovering.{Refuses, Recovers, kept, refused}
use Rattle.promises.proofs.Conditions.{test_size_below}
use Rattle.promises.proofs.Headed.{reached_headed}
use Rattle.promises.proofs.Listing.{Tests, found_one}
use Rattle.promises.proofs.Refusals.{check_both, found_act, settled_act}

-- 2: no edition has more slots than a formatting may
few : Terms → Bool
few t = leb t.slots most_slots

slots_most : (e : ℕ) → (terms e).slots ≤ most_slots
unfolding few
slots_most e = leb-true _ _ (of_terms few refl e)

-- so a heading is judged by one test
module _ (h : Rule) (n : ℕ) where
  sized : Bool
  sized = both (leb h.S (terms_of h).slots) (both (in_limits h.P h.S) (eqb n (size h.P h.S)))

  test_sized : Tests sized (WrongSize (terms_of h).slots h.P h.S n)
  unfolding sized
  test_sized = test_size_below (terms_of h).slots h.P h.S n (slots_most h.edition)

  judged_sized : judge_heading h n ≡ check sized 2 0 allowed
  unfolding sized judge_heading judge_format
  judged_sized = sym (check_both _ _ 2 0 allowed)

  heading_wrong : judge_heading h n ≡ refuse 2 0 → WrongSize (terms_of h).slots h.P h.S n
  unfolding check
  heading_wrong e = test_sized.fails (is_false sized (λ t. unlike (rw (judged_sized, t) at (sym e))))

  wrong_heading : WrongSize (terms_of h).slots h.P h.S n → judge_heading h n ≡ refuse 2 0
  unfolding check
  wrong_heading w = judged_sized ∙ rw (is_false sized (λ t. test_sized.passes t w))

-- 7 to 16: an act is judged by its own list on the heap that a history leaves
judged_by : (P S : ℕ) (y : Image) → get y partitions ≡ P → get y slots ≡ S → (a : Act) → Counted a → Found (act_rows y a) (judge P S y a)
judged_by P S y p s a c = rw (← p, ← s) (found_act y a c)

judged : (h : Rule) (acts : List Act) → History h acts → (a : Act) → Counted a → Found (act_rows (replay h acts) a) (judge h.P h.S (replay h acts) a)
judged h acts s a c =
    let w = reached_headed h.P h.S s.range s.run in
    judged_by h.P h.S (replay h acts) w.partitions_are w.slots_are a c

-- the table in the paper's words, and back
to_paper : {len : ℕ} {log : List ℕ} {k l : ℕ} → Judges len log k l → Refuses len log k l
to_paper {len} = refuses_as (λ h e. heading_wrong h len e) (λ h acts s a c k e j. subst (Found (act_rows (replay h acts) a)) j (judged h acts s a c))

from_paper : {len : ℕ} {log : List ℕ} {k l : ℕ} → Refuses len log k l → Judges len log k l
from_paper {len} =
    refuses_as (λ h w. wrong_heading h len w)
    (λ h acts s a c k e f. found_one (act_rows (replay h acts) a) (settled_act (replay h acts) a) (judge h.P h.S (replay h acts) a) (refuse k e) (judged h acts s a c) f)

-- RECOVERY, and the byte
pub recover_first : (log : List ℕ) (len : ℕ) → Bytes log → Recovers log len (recover_of log len) (byte_of log (recover_of log len).verdict)
recover_first log len small = by (recover_of log len).verdict refl
  where
    by : (v : Verdict) → (recover_of log len).verdict ≡ v → Recovers log len (recover_of log len) (byte_of log (recover_of log len).verdict)
    by (Ok _) e =
        let a = any_bytes log len small e in
        subst (λ (o : Recovered). Recovers log len o (byte_of log o.verdict)) (sym (kept_is a.kept)) (kept a.rule a.acts a.kept)
    by (Err r) e =
        let f = refused_so log len small r.number r.extra e in
        subst (λ (o : Recovered). Recovers log len o (byte_of log o.verdict)) (sym (refused_only log len small r.number r.extra f))
        (refused r.number r.extra _ (to_paper f) (located_refused log len small r.number r.extra e))

pub recover_exactly : (log : List ℕ) (len : ℕ) → Bytes log → (r : Recovered) (b : ℕ) → Recovers log len r b → (r ≡ recover_of log len) × (b ≡ byte_of log (recover_of log len).verdict)
recover_exactly log len small r b (kept h acts k) = (sym (kept_is k), ap (λ (o : Recovered). byte_of log o.verdict) (sym (kept_is k)))
recover_exactly log len small r b (refused k l _ f at) =
    let e = refused_only log len small k l (from_paper f) in
    (sym e, located_one at (located_refused log len small k l (ap (λ (o : Recovered). o.verdict) e)) ∙ ap (λ (o : Recovered). byte_of log o.verdict) (sym e))
