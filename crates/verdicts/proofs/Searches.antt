-- What each search tells a judge.
-- Assumes nothing.
use Prim.Native.Nat.{ℕ, ◌*◌, ◌≤◌, ◌<◌}
use mathlib.Core.Logic.{◌≢◌}
use mathlib.Core.Path.{◌≡◌, refl}
use mathlib.Core.Bool.{Bool, true≢false}
use native.Mathlib.Omega.{arith}
use lib.Dec.{eqb}
use Rattle.std.specs.Prelude.{◌↔◌}
use Rattle.std.specs.Option.{MatchOption, IfSome, IsNone}
use Rattle.std.specs.declared.option.Option.{Option}
use Rattle.std.specs.declared.option.Option.TheVariants.{Some, None}
use Rattle.loops.specs.Loop.{first}
use Rattle.loops.proofs.Loops.{tally_some}
use Rattle.loops.proofs.Walks.{first_passes, first_none, tally_none_pass}
use Rattle.model.specs.Image.{Image, Key, Holder, flag, get, place_of}
use Rattle.model.specs.Acts.{not_clean}
use Rattle.model.specs.Judge.{lowest}
use Rattle.image.specs.Within.{Within}

-- the word of a key that holds a reference leads into the heap, if anywhere
pub leads_in : {P S : ℕ} {img : Image} {κ : Key} {w : ℕ} → w ≡ get img κ → Within P S img → Holder (P * S) κ → w ≢ 0 → place_of S w < P * S
leads_in {κ = κ} e h k = rw e (h.refs κ k)

-- the first partition whose flag is 0 is the lowest that is not clean; where there is none all are
pub unclean_found : (P : ℕ) (img : Image) (r : Option ℕ) → MatchOption r (P ≤ first P 0 (λ p. eqb (get img (flag p)) 0)) (λ i. (i ≡ first P 0 (λ p. eqb (get img (flag p)) 0)) × (i < P))
    → (IsNone r ↔ (not_clean P img ≡ 0)) × IfSome r (λ q. q ≡ lowest P img)
unfolding not_clean lowest
unclean_found P img None h = let f : ℕ → Bool = λ p. eqb (get img (flag p)) 0 in ((λ e. tally_none_pass P f (λ i l. first_none f P 0 (omega arith) i (omega arith) (omega arith)), λ e. refl), tt)
unclean_found P img (Some i) h =
    let f : ℕ → Bool = λ p. eqb (get img (flag p)) 0 in
    ((λ e. absurd (true≢false e), λ e. absurd (omega (arith, e, tally_some P f (first P 0 f) (omega arith) (first_passes f P (omega arith))))), h.0)
