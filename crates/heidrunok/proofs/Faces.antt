-- What C is told, from what the calls ensure.
-- Assumes nothing.
use Prim.Native.Nat.{ℕ, ◌+◌, ◌≤◌, ◌<◌, min}
use mathlib.Core.Path.{◌≡◌, refl, sym, ap, ◌∙◌}
use mathlib.Core.Bool.{Bool, true, false}
use mathlib.Core.List.{List, map}
use mathlib.Core.Logic.{⊎_elim}
use native.Mathlib.Numerals.{add-one}
use native.Mathlib.Omega.{arith}
use lib.Dec.{ltb}
use lib.ListN.{length, get_or, take, set, length-map, get_or-map}
use lib.Seq.{take-suc, take-suc-set, take_all, length-take-le}
use borrow.Author.Tests.{lt-leb}
use Rattle.kinds.specs.Names.{most_operations}
use Rattle.kinds.specs.declared.Operation.{Operation}
use Rattle.kinds.specs.Answers.{Verdict}
use Rattle.model.specs.Image.{Image}
use Rattle.model.specs.Judge.{check, judge}
use Rattle.loops.proofs.Tests.{both_false, lt_or_ge}
use Rattle.model.specs.Sound.{is_sound}
use Rattle.journal.specs.Recover.{Recovered, byte_of}
use Rattle.recovery.specs.Answers.{out, byte_in}
use Rattle.recovery.specs.Answers.{Recovery}
use Rattle.std.specs.Prelude.{Err, Ok}
use Rattle.catalogue.specs.Answers.{Answer}
use Rattle.catalogue.specs.Answers.{Said, said_verdict, totals, yield, said}
use Rattle.catalogue.specs.Call.{Outcome, outcome, perform, judge_act, call_by, commit_of}
use Rattle.heidrunok.specs.Face.{told, seen, restored, said_recovered, operation_of, commit_by}

-- a logged call, its answer said in numbers
module _ {A B : Type 0} (say : A → B) where
  pub seen_of : (a : A) (b : B) (y : Image) (l : List ℕ) (o : Outcome A) → outcome a y l ≡ o → b ≡ say a → outcome b y l ≡ seen say o
  seen_of a b y l o e q = ap (λ (c : B). outcome c y l) q ∙ ap (seen say) e

-- what more is told beside the length
module _ {B : Type 0} (more : ℕ → B) where
  told_more : (n e v : ℕ) (s : Said ℕ) → told n e v ≡ s → told n e (more v) ≡ told s.number s.extra (more s.value)
  told_more n e v s q = ap (λ (z : Said ℕ). told z.number z.extra (more z.value)) q

pub totals_told : (n e v t f : ℕ) (s : Said ℕ) → told n e v ≡ s → told n e (totals v t f) ≡ told s.number s.extra (totals s.value t f)
totals_told n e v t f = told_more (λ k. totals k t f) n e v

pub yield_told : (n e v f : ℕ) (s : Said ℕ) → told n e v ≡ s → told n e (yield v f) ≡ told s.number s.extra (yield s.value f)
yield_told n e v f = told_more (λ k. yield k f) n e v

abbrev answer_of : Recovery → Answer
answer_of (Ok k) = Ok k
answer_of (Err f) = Err f.refusal

pub recover_told : (n e v : ℕ) (y : Image) (log : List ℕ) (a b : Recovery) (x : Recovered) → told n e v ≡ said (answer_of b) → a ≡ b
    → (out a y ≡ x) × (byte_in a ≡ byte_of log x.verdict) → told n e (restored v (byte_in b) y) ≡ said_recovered log x
recover_told n e v y log a b x q g o = told_more (λ k. restored k (byte_in b) y) n e v (said (answer_of b)) q ∙ rw (← o.1, ← o.0, g) (go b)
  where
    go : (b : Recovery) → let s = said (answer_of b) in
        told s.number s.extra (restored s.value (byte_in b) y) ≡ said_verdict (out b y).verdict (restored (out b y).kept (byte_in b) (out b y).image)
    go (Ok k) = refl
    go (Err f) = refl

-- no extra answer
module _ {A : Type 0} where
  pub told_plain : (s : Said A) → s.extra ≡ 0 → told s.number 0 s.value ≡ s
  told_plain s e = λ i. told s.number (sym e i) s.value

-- one more operation is made of its words
pub taken_more : (ws : List (List ℕ)) (ops : List Operation) (i : ℕ) (d : List ℕ) (o : Operation) → i < length ws → i < length ops
    → take i ops ≡ take i (map operation_of ws) → o ≡ operation_of (get_or ws i d) → take (i + 1) (set ops i o) ≡ take (i + 1) (map operation_of ws)
taken_more ws ops i d o l m e f =
    let k : i < length (map operation_of ws) = omega (arith, length-map ws operation_of) in
    rw (add-one i, take-suc-set ops i o m, take-suc (map operation_of ws) i (operation_of d) k, get_or-map operation_of ws i d, e, f)

-- a commit of more than 32 is refused whatever they are, and 33 are enough to see that there are more
module _ (img : Image) (log : List ℕ) (at : ℕ) where
  too_many_lem : (b : Bool) (u v : Verdict) (bs cs : List ℕ) (y z : Image)
      → perform Ok Err (check b 1 0 (check false 6 0 u)) bs y img log at ≡ perform Ok Err (check b 1 0 (check false 6 0 v)) cs z img log at
  unfolding perform check
  too_many_lem true u v bs cs y z = refl
  too_many_lem false u v bs cs y z = refl

  too_many : (os qs : List Operation) → most_operations < length os → most_operations < length qs → commit_of img os log at ≡ commit_of img qs log at
  unfolding call_by judge_act judge
  too_many os qs l m =
      rw (lt-leb (length os) most_operations l, both_false (ltb 0 (length os)), lt-leb (length qs) most_operations m, both_false (ltb 0 (length qs)))
      (too_many_lem (is_sound img) _ _ _ _ _ _)

  pub commit_looked : (ws : List (List ℕ)) (ops : List Operation) (n : ℕ) → n ≡ min (length ws) 33 → n ≤ length ops → take n ops ≡ take n (map operation_of ws)
      → commit_of img (take n ops) log at ≡ commit_by img ws log at
  commit_looked ws ops n e l t = ⊎_elim few many (lt_or_ge 33 (length ws))
    where
      all : List Operation
      all = map operation_of ws

      long : length all ≡ length ws
      long = length-map ws operation_of

      many : length ws ≤ 33 → commit_of img (take n ops) log at ≡ commit_of img all log at
      many h = ap (λ (os : List Operation). commit_of img os log at) (t ∙ take_all n all (omega (arith, long)))

      few : 33 < length ws → commit_of img (take n ops) log at ≡ commit_of img all log at
      few h = too_many (take n ops) all (omega (arith, length-take-le n ops l)) (omega (arith, long))
