-- What a call leaves: accepted, a sound image, on which no call is refused with 1; refused, the image and the log buffer as they were.
-- Assumes nothing.
use Prim.Native.Nat.{ℕ, ◌+◌, ◌*◌, ◌≤◌}
use mathlib.Core.Path.{◌≡◌, refl, sym, ap, ◌∙◌, subst}
use mathlib.Core.Bool.{Bool, true, false}
use mathlib.Core.List.{List}
use mathlib.Core.Logic.{◌≢◌}
use native.Mathlib.Omega.{arith}
use lib.Dec.{leb}
use lib.ListN.{length}
use Rattle.kinds.specs.declared.Name.{Name}
use Rattle.kinds.specs.declared.Partition.{Partition}
use Rattle.kinds.specs.declared.Operation.{Operation}
use Rattle.kinds.specs.declared.Single.TheVariants.{Close, Local}
use Rattle.kinds.specs.declared.Refusal.{Refusal}
use Rattle.kinds.specs.declared.Start.{Start}
use Rattle.kinds.specs.declared.Start.TheVariants.{Root, Handle}
use Rattle.kinds.specs.Answers.{held_from}
use Rattle.kinds.specs.Answers.{Verdict}
use Rattle.std.specs.Prelude.{Result, Ok, Err}
use Rattle.kinds.specs.Answers.{allowed}
use Rattle.kinds.proofs.Answers.{unlike}
use Rattle.model.specs.Image.{Image, partitions, slots, get, length_of, place}
use Rattle.model.specs.Acts.{Act, commit, single}
use Rattle.model.specs.Judge.{check, and_then, judge_format}
use Rattle.model.specs.Sound.{is_sound}
use Rattle.model.proofs.Soundness.{limits_back}
use Rattle.model.proofs.SoundnessActs.{act_passes, blank_passes}
use Rattle.image.proofs.Formats.{format_true}
use Rattle.holding.specs.Finding.{start_of, held_of}
use Rattle.holding.proofs.Answers.{held_so}
use Rattle.catalogue.specs.Call.{Outcome, perform, judge_act, judge_foreign, judge_object, format_of, call_by, call_of, commit_of, closed, close_of, freed, local_of, answered, listing_of, reading_of, asked_of, reasoned, why_of}
use Rattle.catalogue.specs.Answers.{Said, said, said_closing, said_freeing, said_listing, said_reading, said_asked, said_reason}
use Rattle.catalogue.proofs.Perform.{fully, Performed, did, left, performed}
use Rattle.catalogue.proofs.Judged.{passed, act_sound, act_judged}
use Rattle.model.proofs.Numbers.{Among, accepted, numbered, check_among, among_wider, act_among, outlist_among, name_among, format_among}

-- a refusal's number is lo or above where the call's own list, then 17, has no lower one
pub left_number : (lo : ℕ) (v : Verdict) (bytes log : List ℕ) (at : ℕ) → lo ≤ 17 → Among lo 16 v → (r : Refusal) → fully v bytes log at ≡ Err r → lo ≤ r.number
unfolding and_then check
left_number lo (Ok _) bytes log at s accepted r e = go (leb (at + length bytes) (length log)) e
  where
    go : (b : Bool) → check b 17 0 allowed ≡ Err r → lo ≤ r.number
    go true q = unlike (sym q)
    go false q = let z : 17 ≡ r.number = cc in omega arith
left_number lo (Err _) bytes log at s (numbered q l h) r e = let z : q.number ≡ r.number = cc in omega arith

-- what a call that answers with a number leaves: accepted (number 0), a sound image; refused, image and log buffer as they were, and never 1 on a sound image
pub record Leaves {A : Type 0} (number : A → ℕ) (img : Image) (log : List ℕ) (o : Outcome A) : Type 0 where
  pub sound : number o.answer ≡ 0 → is_sound o.image ≡ true
  pub image_stays : number o.answer ≢ 0 → o.image ≡ img
  pub log_stays : number o.answer ≢ 0 → o.log ≡ log
  pub not_1 : is_sound img ≡ true → number o.answer ≢ 1

-- of any answer type whose numbers are the refusals', and 0 where it is done
module _ {A : Type 0} (done-as : ℕ → A) (IsRefused-as : Refusal → A) (number : A → ℕ) (number-done : (n : ℕ) → number (done-as n) ≡ 0)
    (number-refused : (r : Refusal) → number (IsRefused-as r) ≡ r.number) (bytes : List ℕ) (next img : Image) (log : List ℕ) (at : ℕ) where
  module _ (v : Verdict) where
    accepted_next : (o : Outcome A) → Performed done-as IsRefused-as v bytes next img log at o → Among 1 16 v → number o.answer ≡ 0 → (v ≡ allowed) × (o.image ≡ next)
    accepted_next _ (did j m) a e = (j, refl)
    accepted_next _ (left r f) a e = let n = number-refused r in let l = left_number 1 v bytes log at (omega arith) a r f in absurd (omega arith)

    refused_stays : (o : Outcome A) → Performed done-as IsRefused-as v bytes next img log at o → number o.answer ≢ 0 → (o.image ≡ img) × (o.log ≡ log)
    refused_stays _ (did j m) e = absurd (e (number-done (length bytes)))
    refused_stays _ (left r f) e = (refl, refl)

    higher : (o : Outcome A) → Performed done-as IsRefused-as v bytes next img log at o → Among 2 16 v → number o.answer ≢ 1
    higher _ (did j m) a e = let f = number-done (length bytes) in omega arith
    higher _ (left r f) a e = let n = number-refused r in let l = left_number 2 v bytes log at (omega arith) a r f in omega arith

  pub leaves : (v : Verdict) → Among 1 16 v → (is_sound img ≡ true → Among 2 16 v) → (v ≡ allowed → is_sound next ≡ true)
      → Leaves number img log (perform done-as IsRefused-as v bytes next img log at)
  leaves v a b s =
      let o : Outcome A = perform done-as IsRefused-as v bytes next img log at in
      let p : Performed done-as IsRefused-as v bytes next img log at o = performed done-as IsRefused-as v bytes next img log at in
      record {
        sound = λ e. let n = accepted_next v o p a e in ap is_sound n.1 ∙ s n.0;
        image_stays = λ e. (refused_stays v o p e).0;
        log_stays = λ e. (refused_stays v o p e).1;
        not_1 = λ z. higher v o p (b z);
      }

-- 1 is the call's own first check
unsound_among : (x : Image) (v : Verdict) → Among 6 16 v → Among 1 16 (check (is_sound x) 1 0 v)
unsound_among x v a = check_among (is_sound x) 1 0 v (omega arith) (omega arith) (among_wider 1 16 v (omega arith) (omega arith) a)

sound_among : (x : Image) (v : Verdict) → Among 6 16 v → is_sound x ≡ true → Among 2 16 (check (is_sound x) 1 0 v)
sound_among x v a e = subst (Among 2 16) (passed x v e) (among_wider 2 16 v (omega arith) (omega arith) a)

module _ (img : Image) (log : List ℕ) (at : ℕ) where
  pub format_leaves : (P S : ℕ) → Leaves (λ a. (said a).number) img log (format_of img P S log at)
  unfolding format_of
  format_leaves P S =
      let a : Among 2 2 (judge_format P S (length_of img)) = format_among P S (length_of img) in
      leaves _ _ (λ a. (said a).number) (λ n. refl) (λ r. refl) _ _ img log at _ (among_wider 1 16 _ (omega arith) (omega arith) a)
      (λ z. among_wider 2 16 _ (omega arith) (omega arith) a) (λ j. blank_passes P S (limits_back P S (format_true P S (length_of img) j).0))

  -- an act's call, whatever the form of its answer
  call_leaves : {A : Type 0} (done-as : ℕ → A) (IsRefused-as : Refusal → A) (number : A → ℕ) → ((n : ℕ) → number (done-as n) ≡ 0) → ((r : Refusal) → number (IsRefused-as r) ≡ r.number)
      → (a : Act) → Leaves number img log (call_by done-as IsRefused-as img a log at)
  unfolding call_by judge_act
  call_leaves done-as IsRefused-as number d n a =
      leaves done-as IsRefused-as number d n _ _ img log at _ (unsound_among img _ (act_among _ _ img a)) (sound_among img _ (act_among _ _ img a))
      (λ j. act_passes img a (act_sound img a j) (act_judged img a j))

  -- a call that answers its record's length alone
  pub act_leaves : (a : Act) → Leaves (λ a. (said a).number) img log (call_of img a log at)
  act_leaves a = call_leaves Ok Err (λ a. (said a).number) (λ n. refl) (λ r. refl) a

  pub commit_leaves : (ops : List Operation) → Leaves (λ a. (said a).number) img log (commit_of img ops log at)
  commit_leaves ops = act_leaves (commit ops)

  pub close_leaves : Leaves (λ a. (said_closing a).number) img log (close_of img log at)
  close_leaves = call_leaves (closed img) Err (λ a. (said_closing a).number) (λ n. refl) (λ r. refl) (single Close)

  pub local_leaves : (p : Partition) → Leaves (λ a. (said_freeing a).number) img log (local_of img p log at)
  local_leaves p = call_leaves (freed img p) Err (λ a. (said_freeing a).number) (λ n. refl) (λ r. refl) (single (Local p))

-- a chain that is told has number 0, wherever it starts
pub told_number : (s : Start) (k : ℕ) → (said_reason (held_from s k)).number ≡ 0
told_number (Root r) k = refl
told_number (Handle h) k = refl

answered_not_1 : {A : Type 0} (say : Result A Refusal → Said A) → ((a : A) → (say (Ok a)).number ≡ 0) → ((r : Refusal) → (say (Err r)).number ≡ r.number)
    → (v : Verdict) (a : A) → Among 2 16 v → (say (answered v a)).number ≢ 1
answered_not_1 say z q (Ok _) a accepted e = omega (arith, z a)
answered_not_1 say z q (Err r) a (numbered _ l h) e = omega (arith, q r)

-- the questions: on a sound image they are never refused with 1
module _ (img : Image) (n : Name) where
  object_among : is_sound img ≡ true → Among 2 16 (judge_object img n)
  unfolding judge_object
  object_among = sound_among img _ (among_wider 6 16 _ (omega arith) (omega arith) (name_among _ _ img n))

  pub read_not_1 : is_sound img ≡ true → (said_reading (reading_of img n)).number ≢ 1
  unfolding reading_of
  read_not_1 s = answered_not_1 said_reading (λ a. refl) (λ r. refl) _ _ (object_among s)

  pub ask_not_1 : is_sound img ≡ true → (said_asked (asked_of img n)).number ≢ 1
  unfolding asked_of
  ask_not_1 s = answered_not_1 said_asked (λ a. refl) (λ r. refl) _ _ (object_among s)

  pub why_not_1 : is_sound img ≡ true → (words : List ℕ) → (said_reason (why_of img n words).answer).number ≢ 1
  unfolding why_of
  why_not_1 s words = go (judge_object img n) (object_among s)
    where
      go : (v : Verdict) → Among 2 16 v → (said_reason (reasoned v (held_of (get img partitions * get img slots) (get img slots) img (place (get img slots) n) words) words).answer).number ≢ 1
      go (Ok _) accepted = held_so _ _ img _ words (λ o. (said_reason o.answer).number ≢ 1) (λ e. omega arith) (λ e. omega arith) (λ c e. omega (arith, told_number (start_of c.start) (length c.fields)))
      go (Err _) (numbered r l h) = λ e. omega arith

pub outlist_not_1 : (img : Image) (p : Partition) → is_sound img ≡ true → (said_listing (listing_of img p)).number ≢ 1
unfolding listing_of judge_foreign
outlist_not_1 img p s =
    answered_not_1 said_listing (λ a. refl) (λ r. refl) _ _ (sound_among img _ (among_wider 6 16 _ (omega arith) (omega arith) (outlist_among _ p.0)) s)
