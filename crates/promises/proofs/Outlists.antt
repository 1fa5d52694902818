-- What outlist answers: the foreign names that fields of p's objects in use hold, in order and without repeats (model/specs/Outlist.antt); and no other list of
-- 512 names is so.
-- Assumes nothing.
use Prim.Native.Nat.{ℕ, zero, suc, ◌≤◌, ◌<◌}
use mathlib.Core.Path.{◌≡◌, refl, sym, ap, ◌∙◌}
use mathlib.Core.Logic.{⊎_elim}
use native.Mathlib.Omega.{arith}
use lib.ListN.{get_or}
use lib.Seq.{ext_get_or}
use borrow.Author.Tests.{ltb-true}
use Rattle.loops.proofs.Tests.{eq_or_ne, lt_or_ge}
use Rattle.kinds.specs.declared.Outlist.{Outlist}
use Rattle.kinds.specs.declared.Partition.{Partition}
use Rattle.kinds.specs.Answers.{Verdict}
use Rattle.std.specs.Prelude.{Ok, Err}
use Rattle.kinds.specs.Answers.{allowed}
use Rattle.model.specs.Image.{Image, partitions, slots, get}
use Rattle.model.specs.Judge.{judge_outlist}
use Rattle.model.specs.Outlist.{outlist, Outlisted}
use Rattle.model.proofs.Committing.{check_true}
use Rattle.model.proofs.Outlists.{outlisted}
use Rattle.model.proofs.Soundness.{sound_true}
use Rattle.catalogue.specs.Call.{judge_foreign, answered, listing_of}

-- two outlists of one partition: name by name
module _ (S p : ℕ) (x : Image) where
  abbrev name : Outlist → ℕ → ℕ
  name o i = get_or o.names i 0

  next_lies : (a b : Outlist) → Outlisted S p x a → Outlisted S p x b → (i : ℕ) → i < a.number → ((k : ℕ) → k < i → name a k ≡ name b k) → (i < b.number) × (name b i ≤ name a i)
  next_lies a b u v i l h =
      let c = u.held i l in
      let d = v.all c.0 c.1 (name a i) c.2 in
      let m : d.0 < b.number = d.1 in
      let e : name b d.0 ≡ name a i = d.2 in
      let far : i ≤ d.0 = ⊎_elim (λ q. let r = u.ordered d.0 i q l in let s = h d.0 q in absurd (omega arith)) (λ q. q) (lt_or_ge d.0 i) in
      (omega arith, ⊎_elim (λ q. let s : name b i ≡ name b d.0 = ap (name b) q in omega arith) (λ ne. let r = v.ordered i d.0 (omega arith) m in omega arith) (eq_or_ne i d.0))

  module _ (a b : Outlist) (u : Outlisted S p x a) (v : Outlisted S p x b) where
    same_names : (n i : ℕ) → i < n → i < a.number → (i < b.number) × (name a i ≡ name b i)
    same_names zero i l m = absurd (omega arith)
    same_names (suc n) i l m =
        let h : (k : ℕ) → k < i → name a k ≡ name b k = λ k q. (same_names n k (omega arith) (omega arith)).1 in
        let r = next_lies a b u v i m h in
        let s = next_lies b a v u i r.0 (λ k q. sym (h k q)) in
        (r.0, omega (arith, r.1, s.1))

    no_more : a.number ≤ b.number
    no_more = ⊎_elim (λ q. let r = (same_names (suc b.number) b.number (omega arith) q).0 in omega arith) (λ q. q) (lt_or_ge b.number a.number)

  outlisted_once : (a b : Outlist) → Outlisted S p x a → Outlisted S p x b → a ≡ b
  outlisted_once a b u v = λ i. record { number = number i; names = names i }
    where
      number : a.number ≡ b.number
      number = omega (arith, no_more a b u v, no_more b a v u)

      names : a.names ≡ b.names
      names =
          ext_get_or 0 a.names b.names (u.long ∙ sym v.long)
          (λ i l. ⊎_elim (λ q. (same_names a b u v (suc i) i (omega arith) q).1) (λ q. u.unused i q ∙ sym (v.unused i (omega (arith, number)))) (lt_or_ge i a.number))

module _ (img : Image) (p : Partition) (o : Outlist) (z : listing_of img p ≡ Ok o) where
  -- accepted, it answers the list that computes
  listed_is : (judge_foreign img p ≡ allowed) × (o ≡ outlist (get img partitions) (get img slots) p.0 img)
  unfolding listing_of
  listed_is = by (judge_foreign img p) z
    where
      by : (u : Verdict) → answered u (outlist (get img partitions) (get img slots) p.0 img) ≡ Ok o → (u ≡ allowed) × (o ≡ outlist (get img partitions) (get img slots) p.0 img)
      by (Ok _) e = (refl, (cc))
      by (Err r) e = absurd (let z : ◌≡◌ {A = ℕ} 0 1 = cc in omega arith)

  -- OUTLIST, accepted, lists the foreign names that p's objects hold
  pub outlist_lists : Outlisted (get img slots) p.0 img o
  unfolding judge_foreign judge_outlist
  outlist_lists =
      let a = check_true _ _ _ _ listed_is.0 in
      rw listed_is.1 (outlisted (get img partitions) (get img slots) p.0 (ltb-true _ _ (check_true _ _ _ _ a.1).0) img (sound_true img a.0))

  -- and it is the only one that is so
  pub outlist_only : (q : Outlist) → Outlisted (get img slots) p.0 img q → q ≡ o
  outlist_only q l = outlisted_once (get img slots) p.0 img q o l outlist_lists
