-- Demand 1, the table of refusals: what each call says is what its list says, the number of the first row whose condition holds with its extra answer and
-- nothing beside, and accepted with its values where no condition holds (`-first`); and the list determines it: nothing else may be said (`-exactly`).
-- Assumes nothing.
use Prim.Native.Nat.{ℕ, ◌+◌, ◌*◌}
use mathlib.Core.Path.{◌≡◌, refl, sym, ap, subst}
use mathlib.Core.Bool.{Bool, true, false}
use mathlib.Core.List.{List, [], ◌∷◌, ◌++◌}
use mathlib.Core.Logic.{inl, inr, ⊎_elim}
use native.Mathlib.Omega.{arith}
use lib.Dec.{ltb, leb}
use lib.ListN.{length}
use borrow.Author.Tests.{eqb-true, eqb-false}
use Rattle.loops.specs.Loop.{both}
use Rattle.kinds.specs.Names.{most_slots, most_operations, roots, handles}
use Rattle.kinds.specs.Answers.{refuse, blank_record, no_names}
use Rattle.kinds.specs.declared.Name.{Name}
use Rattle.kinds.specs.declared.Partition.{Partition}
use Rattle.kinds.specs.declared.Operation.{Operation}
use Rattle.kinds.specs.declared.Operation.TheVariants.{New, Set, Val, Root}
use Rattle.kinds.specs.declared.Single.{Single}
use Rattle.kinds.specs.declared.Single.TheVariants.{Open, Trace, Close, Local, Hold, Drop}
use Rattle.kinds.specs.declared.Record.{Record}
use Rattle.kinds.specs.declared.Outlist.{Outlist}
use Rattle.kinds.specs.declared.Refusal.{Refusal}
use Rattle.kinds.specs.Answers.{Reason}
use Rattle.kinds.specs.Answers.{held_from}
use Rattle.kinds.specs.Answers.{Verdict}
use Rattle.std.specs.Prelude.{Result, Ok, Err}
use Rattle.kinds.specs.Answers.{allowed}
use Rattle.kinds.proofs.Answers.{unlike}
use Rattle.model.specs.Image.{Image, partitions, slots, count, allowance, get, length_of, place}
use Rattle.model.specs.Acts.{Act, commit, single, perform, unmarked, local_freed}
use Rattle.model.specs.Judge.{check, and_then, in_heap, judge_format, judge_op, judge_ops, lowest, judge, judge_outlist, judge_name}
use Rattle.model.specs.Questions.{read_of, ask}
use Rattle.model.specs.Outlist.{outlist}
use Rattle.model.specs.Sound.{is_sound}
use Rattle.holding.specs.Holding.{Chain, Foremost}
use Rattle.holding.specs.Finding.{distance, chain_of, start_of, Explained}
use Rattle.holding.proofs.Order.{foremost_once}
use Rattle.holding.proofs.Found.{found_foremost, distance_in, holds_leads}
use Rattle.writer.specs.Record.{record_of, newest, heading_of}
use Rattle.journal.proofs.Placing.{Counted, judge_commit_lem}
use Rattle.catalogue.specs.declared.Closed.{Closed}
use Rattle.catalogue.specs.declared.Freed.{Freed}
use Rattle.catalogue.specs.Answers.{Said, accepted, refused_with, said, totals, said_closing, yield, said_freeing, said_reading, said_listing, said_asked, Chained, chained, said_reason}
use Rattle.catalogue.specs.Call.{perform as perform-call, judge_act, judge_foreign, judge_object, format_of, call_by, call_of, commit_of, closed, close_of, freed, local_of, listing_of, reading_of, answered, asked_of, why_of}
use Rattle.catalogue.proofs.Perform.{fully}
use Rattle.promises.specs.Rows.{Row, given, Found, telled, First, Unsound, WrongSize, WrongCount, NoRoom, Lowest, format_rows, operation_rows, operations_rows, act_rows, call_rows, commit_rows, outlist_rows, object_rows, Unheld, Narrow, why_rows, OfForemost}
use Rattle.promises.specs.Effects.{Present}
use Rattle.promises.specs.Why.{Explains, unheld, narrow, held}
use Rattle.promises.proofs.Conditions.{test_lt, test_le, test_ne, test_both, test_as, test_sound, test_size, test_name, test_target, test_free, test_used, test_target_used, test_open, test_shut, test_rooted, test_unclean, found_lowest, none_lowest, one_lowest, test_led}
use Rattle.promises.proofs.Effects.{present_judged, present_refs}
use Rattle.promises.proofs.Why.{why_cases}
use Rattle.promises.proofs.Listing.{Tests, Settled, settled_then, found_none, found_check, found_tell, found_after, found_then, exactly, said_perform}

-- 17, judged last
found_room : (bytes log : List ℕ) (at : ℕ) → Found (given 17 0 (NoRoom bytes at log) ∷ []) (check (leb (at + length bytes) (length log)) 17 0 allowed)
found_room bytes log at = found_check _ 17 0 allowed _ [] (test_le (at + length bytes) (length log)) found_none

-- one operation, and each in turn
found_operation : (P S : ℕ) (img : Image) (e : ℕ) (o : Operation) → Found (operation_rows P S img e o) (judge_op P S img e o)
unfolding judge_op
found_operation P S img e (New n v) = found_check _ 7 e _ _ _ (test_name P S n) (found_check _ 8 e _ _ _ (test_free S img n) found_none)
found_operation P S img e (Set n k t) =
    found_check _ 7 e _ _ _ (test_both _ _ _ _ (test_name P S n) (test_both _ _ _ _ (test_lt k 4) (test_target P S t)))
    (found_check _ 9 e _ _ _ (test_used S img n) (found_check _ 9 e _ _ _ (test_target_used S img t) found_none))
found_operation P S img e (Val n v) = found_check _ 7 e _ _ _ (test_name P S n) (found_check _ 9 e _ _ _ (test_used S img n) found_none)
found_operation P S img e (Root r t) =
    found_check _ 7 e _ _ _ (test_both _ _ _ _ (test_lt r roots) (test_target P S t)) (found_check _ 9 e _ _ _ (test_target_used S img t) found_none)

found_operations : (P S : ℕ) (img : Image) (e : ℕ) (os : List Operation) → Found (operations_rows P S img e os) (judge_ops P S img e os)
unfolding judge_ops
found_operations P S img e [] = found_none
found_operations P S img e (o ∷ os) =
    found_then (operation_rows P S img e o) (operations_rows P S (perform S img o) (e + 1) os) _ _ (found_operation P S img e o) (found_operations P S (perform S img o) (e + 1) os)

-- a commit's list leaves no extra answer a choice
settled_operation : (P S : ℕ) (img : Image) (e : ℕ) (o : Operation) → Settled (operation_rows P S img e o)
settled_operation P S img e (New n v) = tt
settled_operation P S img e (Set n k t) = tt
settled_operation P S img e (Val n v) = tt
settled_operation P S img e (Root r t) = tt

settled_operations : (P S : ℕ) (img : Image) (e : ℕ) (os : List Operation) → Settled (operations_rows P S img e os)
settled_operations P S img e [] = tt
settled_operations P S img e (o ∷ os) =
    settled_then (operation_rows P S img e o) (operations_rows P S (perform S img o) (e + 1) os) (settled_operation P S img e o) (settled_operations P S (perform S img o) (e + 1) os)

-- two tests of one number
pub check_both : (a b : Bool) (n e : ℕ) (u : Verdict) → check (both a b) n e u ≡ check a n e (check b n e u)
unfolding check
check_both true b n e u = refl
check_both false b n e u = refl

-- an act's own list
pub found_act : (img : Image) (a : Act) → Counted a → Found (act_rows img a) (judge (get img partitions) (get img slots) img a)
unfolding judge judge_name
found_act img (commit os) c =
    subst (Found (act_rows img (commit os))) (sym (judge_commit_lem (get img partitions) (get img slots) img os c.0 c.1)) (found_operations (get img partitions) (get img slots) img 1 os)
found_act img (single Open) c = found_check _ 11 0 _ _ _ (test_shut img) (found_check _ 12 0 _ _ _ (test_rooted img) found_none)
found_act img (single (Trace p)) c =
    found_check _ 10 0 _ _ _ (test_open img)
    (found_check _ 7 0 _ _ _ (test_lt p.0 (get img partitions))
    (found_check _ 13 0 _ _ _ (test_unclean img p.0) (found_check _ 15 0 _ _ _ (test_ne (get img count) (get img allowance)) found_none)))
found_act img (single Close) c =
    found_check _ 10 0 _ _ _ (test_open img)
    (found_check _ 12 0 _ _ _ (test_rooted img)
    (found_tell _ 14 (lowest (get img partitions) img) _ (Lowest img) _ (λ e. found_lowest img (eqb-false _ _ e)) (λ e. none_lowest img (eqb-true _ _ e))
    (found_check _ 16 0 _ _ _ (test_led img) found_none)))
found_act img (single (Local p)) c = found_check _ 7 0 _ _ _ (test_lt p.0 (get img partitions)) (found_check _ 12 0 _ _ _ (test_rooted img) found_none)
found_act img (single (Hold h n)) c =
    subst (Found (act_rows img (single (Hold h n)))) (check_both (ltb h.0 handles) (in_heap (get img partitions) (get img slots) n) 7 0 _)
    (found_check _ 7 0 _ _ _ (test_both _ _ _ _ (test_lt h.0 handles) (test_name (get img partitions) (get img slots) n))
    (found_check _ 9 0 _ _ _ (test_used (get img slots) img n) found_none))
found_act img (single (Drop h)) c = found_check _ 7 0 _ _ _ (test_lt h.0 handles) found_none

pub settled_act : (img : Image) (a : Act) → Settled (act_rows img a)
settled_act img (commit os) = settled_operations (get img partitions) (get img slots) img 1 os
settled_act img (single Open) = tt
settled_act img (single (Trace p)) = tt
settled_act img (single Close) = (one_lowest img, tt)
settled_act img (single (Local p)) = tt
settled_act img (single (Hold h n)) = tt
settled_act img (single (Drop h)) = tt

-- a logged call: its own list, then 17
logged_first : {A B : Type 0} (say : B → Said A) (z v : A) (done : ℕ → B) (refused : Refusal → B) (u : Verdict) (bytes : List ℕ) (next img : Image) (log : List ℕ) (at : ℕ) (rows : List Row)
    → say (done (length bytes)) ≡ accepted v → ((r : Refusal) → say (refused r) ≡ refused_with z r) → Found rows u
    → First z v (rows ++ (given 17 0 (NoRoom bytes at log) ∷ [])) (say (perform-call done refused u bytes next img log at).answer)
logged_first say z v done refused u bytes next img log at rows d n f =
    (fully u bytes log at, found_then rows _ u _ f (found_room bytes log at), said_perform say z v done refused u bytes next img log at d n)

settled_call : (img : Image) (a : Act) (log : List ℕ) (at : ℕ) → Settled (call_rows img a log at)
settled_call img a log at = settled_then (act_rows img a) _ (settled_act img a) tt

-- 6: no operation, or too many
test_count : (n : ℕ) → Tests (both (ltb 0 n) (leb n most_operations)) (WrongCount n)
test_count n =
    test_as _ _ _ (⊎_elim (λ z. inl (omega arith)) (λ z. inr z)) (⊎_elim (λ z. inl (omega arith)) (λ z. inr z)) (test_both _ _ _ _ (test_lt 0 n) (test_le n most_operations))

-- FORMAT
pub format_first : (img : Image) (P S : ℕ) (log : List ℕ) (at : ℕ)
    → First 0 (length (heading_of (newest P S))) (format_rows img P S log at) (said (format_of img P S log at).answer)
unfolding format_of judge_format
format_first img P S log at =
    logged_first said 0 _ Ok Err _ (heading_of (newest P S)) _ img log at (given 2 0 (WrongSize most_slots P S (length_of img)) ∷ []) refl (λ r. refl) (found_check _ 2 0 _ _ _ (test_size P S (length_of img)) found_none)

pub format_exactly : (img : Image) (P S : ℕ) (log : List ℕ) (at : ℕ) (s : Said ℕ) → First 0 (length (heading_of (newest P S))) (format_rows img P S log at) s
    → s ≡ said (format_of img P S log at).answer
format_exactly img P S log at s f = exactly 0 (length (heading_of (newest P S))) (format_rows img P S log at) tt s _ f (format_first img P S log at)

-- COMMIT
found_commit : (img : Image) (ops : List Operation)
    → Found (given 1 0 (Unsound img) ∷ given 6 0 (WrongCount (length ops)) ∷ act_rows img (commit ops)) (judge_act img (commit ops))
unfolding judge_act judge
found_commit img ops =
    found_check (is_sound img) 1 0 _ _ _ (test_sound img)
    (found_check _ 6 0 _ _ _ (test_count (length ops)) (found_operations (get img partitions) (get img slots) img 1 ops))

pub commit_first : (img : Image) (ops : List Operation) (log : List ℕ) (at : ℕ)
    → First 0 (length (record_of (commit ops))) (commit_rows img ops log at) (said (commit_of img ops log at).answer)
unfolding call_by
commit_first img ops log at = logged_first said 0 _ Ok Err _ (record_of (commit ops)) _ img log at _ refl (λ r. refl) (found_commit img ops)

pub commit_exactly : (img : Image) (ops : List Operation) (log : List ℕ) (at : ℕ) (s : Said ℕ)
    → First 0 (length (record_of (commit ops))) (commit_rows img ops log at) s → s ≡ said (commit_of img ops log at).answer
commit_exactly img ops log at s f =
    exactly 0 (length (record_of (commit ops))) (commit_rows img ops log at) (settled_call img (commit ops) log at) s _ f (commit_first img ops log at)

-- AN ACT WHOSE RECORD IS A SINGLE LINE, whatever the form of its answer
call_first : {A B : Type 0} (say : B → Said A) (z v : A) (done : ℕ → B) (refused : Refusal → B) (img : Image) (a : Single) (log : List ℕ) (at : ℕ)
    → say (done (length (record_of (single a)))) ≡ accepted v → ((r : Refusal) → say (refused r) ≡ refused_with z r)
    → First z v (call_rows img (single a) log at) (say (call_by done refused img (single a) log at).answer)
unfolding call_by judge_act
call_first say z v done refused img a log at d n =
    logged_first say z v done refused _ (record_of (single a)) _ img log at (given 1 0 (Unsound img) ∷ act_rows img (single a)) d n
    (found_check _ 1 0 _ _ _ (test_sound img) (found_act img (single a) tt))

call_exactly : {A : Type 0} (z v : A) (img : Image) (a : Single) (log : List ℕ) (at : ℕ) (s t : Said A)
    → First z v (call_rows img (single a) log at) s → First z v (call_rows img (single a) log at) t → s ≡ t
call_exactly z v img a log at s t f g = exactly z v (call_rows img (single a) log at) (settled_call img (single a) log at) s t f g

-- OPEN, TRACE, HOLD and DROP, which answer their record's length alone: each is `call_of` of its act (catalogue/specs/Call.antt)
pub act_first : (img : Image) (a : Single) (log : List ℕ) (at : ℕ)
    → First 0 (length (record_of (single a))) (call_rows img (single a) log at) (said (call_of img (single a) log at).answer)
act_first img a log at = call_first said 0 _ Ok Err img a log at refl (λ r. refl)

pub act_exactly : (img : Image) (a : Single) (log : List ℕ) (at : ℕ) (s : Said ℕ) → First 0 (length (record_of (single a))) (call_rows img (single a) log at) s
    → s ≡ said (call_of img (single a) log at).answer
act_exactly img a log at s f = call_exactly 0 _ img a log at s _ f (act_first img a log at)

-- CLOSE, which answers the count and the number freed
pub close_first : (img : Image) (log : List ℕ) (at : ℕ)
    → First (totals 0 0 0) (totals (length (record_of (single Close))) (get img count) (unmarked (get img partitions * get img slots) img)) (call_rows img (single Close) log at)
    (said_closing (close_of img log at).answer)
close_first img log at = call_first said_closing (totals 0 0 0) _ (closed img) Err img Close log at refl (λ r. refl)

pub close_exactly : (img : Image) (log : List ℕ) (at : ℕ) (s : Said Closed)
    → First (totals 0 0 0) (totals (length (record_of (single Close))) (get img count) (unmarked (get img partitions * get img slots) img)) (call_rows img (single Close) log at) s
    → s ≡ said_closing (close_of img log at).answer
close_exactly img log at s f = call_exactly (totals 0 0 0) _ img Close log at s _ f (close_first img log at)

-- LOCAL, which answers the number freed
pub local_first : (img : Image) (p : Partition) (log : List ℕ) (at : ℕ)
    → First (yield 0 0) (yield (length (record_of (single (Local p)))) (local_freed (get img partitions) (get img slots) p.0 img)) (call_rows img (single (Local p)) log at)
    (said_freeing (local_of img p log at).answer)
local_first img p log at = call_first said_freeing (yield 0 0) _ (freed img p) Err img (Local p) log at refl (λ r. refl)

pub local_exactly : (img : Image) (p : Partition) (log : List ℕ) (at : ℕ) (s : Said Freed)
    → First (yield 0 0) (yield (length (record_of (single (Local p)))) (local_freed (get img partitions) (get img slots) p.0 img)) (call_rows img (single (Local p)) log at) s
    → s ≡ said_freeing (local_of img p log at).answer
local_exactly img p log at s f = call_exactly (yield 0 0) _ img (Local p) log at s _ f (local_first img p log at)

-- a question's answer is told as its verdict is
said_answered : {A : Type 0} (say : Result A Refusal → Said A) (z v : A) → say (Ok v) ≡ accepted v → ((r : Refusal) → say (Err r) ≡ refused_with z r)
    → (u : Verdict) → say (answered u v) ≡ telled z v u
said_answered say z v d n (Ok _) = d
said_answered say z v d n (Err r) = n r

-- OUTLIST
found_outlist : (img : Image) (p : Partition) → Found (outlist_rows img p.0) (judge_foreign img p)
unfolding judge_foreign judge_outlist
found_outlist img p = found_check _ 1 0 _ _ _ (test_sound img) (found_check _ 7 0 _ _ _ (test_lt p.0 (get img partitions)) found_none)

pub outlist_first : (img : Image) (p : Partition) → First no_names (outlist (get img partitions) (get img slots) p.0 img) (outlist_rows img p.0) (said_listing (listing_of img p))
unfolding listing_of
outlist_first img p = (judge_foreign img p, found_outlist img p, said_answered said_listing no_names _ refl (λ r. refl) (judge_foreign img p))

pub outlist_exactly : (img : Image) (p : Partition) (s : Said Outlist)
    → First no_names (outlist (get img partitions) (get img slots) p.0 img) (outlist_rows img p.0) s → s ≡ said_listing (listing_of img p)
outlist_exactly img p s f = exactly no_names (outlist (get img partitions) (get img slots) p.0 img) (outlist_rows img p.0) tt s _ f (outlist_first img p)

-- READ and ASK
found_object : (img : Image) (n : Name) → Found (object_rows img n) (judge_object img n)
unfolding judge_object judge_name
found_object img n =
    found_check _ 1 0 _ _ _ (test_sound img)
    (found_check _ 7 0 _ _ _ (test_name (get img partitions) (get img slots) n) (found_check _ 9 0 _ _ _ (test_used (get img slots) img n) found_none))

pub read_first : (img : Image) (n : Name) → First blank_record (read_of img (place (get img slots) n)) (object_rows img n) (said_reading (reading_of img n))
unfolding reading_of
read_first img n = (judge_object img n, found_object img n, said_answered said_reading blank_record _ refl (λ r. refl) (judge_object img n))

pub read_exactly : (img : Image) (n : Name) (s : Said Record) → First blank_record (read_of img (place (get img slots) n)) (object_rows img n) s → s ≡ said_reading (reading_of img n)
read_exactly img n s f = exactly blank_record (read_of img (place (get img slots) n)) (object_rows img n) tt s _ f (read_first img n)

pub ask_first : (img : Image) (n : Name)
    → First false (ask (get img partitions) (get img slots) img (place (get img slots) n)) (object_rows img n) (said_asked (asked_of img n))
unfolding asked_of
ask_first img n = (judge_object img n, found_object img n, said_answered said_asked false _ refl (λ r. refl) (judge_object img n))

pub ask_exactly : (img : Image) (n : Name) (s : Said Bool)
    → First false (ask (get img partitions) (get img slots) img (place (get img slots) n)) (object_rows img n) s → s ≡ said_asked (asked_of img n)
ask_exactly img n s f = exactly false (ask (get img partitions) (get img slots) img (place (get img slots) n)) (object_rows img n) tt s _ f (ask_first img n)

-- WHY
module _ (img : Image) (n : Name) where
  -- accepted, it says what is so of every foremost chain, since there is only one
  pub why_value : (v : Chained) × OfForemost img n v
  why_value = (
    (said_reason (held_from (start_of chain.start) (length chain.fields))).value,
    λ h c f. ap (λ (x : Chain). (said_reason (held_from (start_of x.start) (length x.fields))).value) (foremost_once chain c (is_foremost h c f) f),
  )
    where
      places : ℕ
      places = get img partitions * get img slots

      chain : Chain
      chain = chain_of places (get img slots) img (place (get img slots) n) (distance places (get img slots) img (place (get img slots) n))

      is_foremost : Present img n → (c : Chain) → Foremost (get img slots) img (place (get img slots) n) c → Foremost (get img slots) img (place (get img slots) n) chain
      is_foremost h c f = found_foremost places (get img slots) img _ (present_refs img n h) (distance_in places (get img slots) img _ (present_refs img n h) c f.holds)

  module _ (words : List ℕ) (v : Chained) (value : OfForemost img n v) where
    -- 18, 19, of an object in use
    found_explained : Present img n → (o : Explained Reason) → Explains (get img slots) img (place (get img slots) n) words o
        → First (chained false 0 0) v (given 18 0 (Unheld img n) ∷ given 19 0 (Narrow img n words) ∷ []) (said_reason o.answer)
    unfolding Found
    found_explained h _ (unheld g) = (refuse 18 0, inl (g, refl), refl)
    found_explained h _ (narrow c f l) =
        (refuse 19 0, inr (λ g. g (holds_leads (get img slots) img c f.holds), inl (record { chain = c; foremost = f; few = omega arith }, refl)), refl)
    found_explained h _ (held c f l) =
        (allowed, inr (λ g. g (holds_leads (get img slots) img c f.holds), inr (wide, refl)), ap accepted (sym (value h c f)))
      where
        wide : Narrow img n words → ⊥
        wide m =
            let e : length m.chain.fields ≡ length c.fields = ap (λ (x : Chain). length x.fields) (foremost_once m.chain c m.foremost f) in
            omega (arith, m.few)

    pub why_first : First (chained false 0 0) v (why_rows img n words) (said_reason (why_of img n words).answer)
    unfolding and_then
    why_first =
        why_cases img n words (λ o. First (chained false 0 0) v (why_rows img n words) (said_reason o.answer))
        (λ r e. (Err r, found_after (object_rows img n) _ (Err r) allowed (subst (Found (object_rows img n)) e (found_object img n)) unlike, refl))
        (λ h o x.
        let f = found_explained h o x in
        (f.0, found_after (object_rows img n) _ allowed f.0 (subst (Found (object_rows img n)) (present_judged img n h) (found_object img n)) (λ e. f.1), f.2))

    pub why_exactly : (s : Said Chained) → First (chained false 0 0) v (why_rows img n words) s → s ≡ said_reason (why_of img n words).answer
    why_exactly s f = exactly (chained false 0 0) v (why_rows img n words) tt s _ f why_first
