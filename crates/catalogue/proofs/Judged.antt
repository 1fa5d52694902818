-- What the verdict on a call tells: a sound image has P and S in its words 0 and 1 and every reference in range, and so what the code of the acts asks for.
-- Assumes nothing.
use Prim.Native.Nat.{ℕ, ◌*◌, ◌≤◌, ◌<◌}
use mathlib.Core.Path.{◌≡◌}
use mathlib.Core.Bool.{true, false}
use mathlib.Core.List.{List}
use native.Mathlib.Omega.{arith}
use lib.ListN.{length, take}
use lib.Seq.{take_all}
use lib.Dec.{ltb, leb}
use mathlib.Core.Logic.{◌⊎◌, inl, inr}
use Rattle.loops.proofs.Tests.{both_true, both_false}
use borrow.Author.Tests.{leb-true, lt-leb, le-leb, lt-ltb, ltb-true}
use Rattle.kinds.specs.Names.{most_operations}
use Rattle.kinds.specs.Answers.{refuse}
use Rattle.kinds.specs.declared.Name.{Name}
use Rattle.kinds.specs.declared.Partition.{Partition}
use Rattle.kinds.specs.declared.Operation.{Operation}
use Rattle.kinds.specs.Answers.{Verdict}
use Rattle.kinds.specs.Answers.{allowed}
use Rattle.model.specs.Image.{Image, head, partitions, slots, Has, get, place}
use Rattle.model.specs.Acts.{Act, commit}
use Rattle.model.specs.Judge.{check, judge, judge_ops, judge_outlist}
use Rattle.model.specs.Sound.{is_sound}
use Rattle.model.proofs.Soundness.{sound_true}
use Rattle.model.proofs.Committing.{check_true}
use Rattle.image.specs.Within.{Within}
use Rattle.image.proofs.Within.{sound_within, has_word}
use Rattle.verdicts.proofs.Naming.{accepted_in}
use Rattle.catalogue.specs.declared.Subject.{Subject}
use Rattle.catalogue.specs.declared.Subject.TheVariants.{Single, Outlist as Foreign, Object}
use Rattle.catalogue.specs.Call.{judge_in, judge_act, judge_foreign, judge_object, judge_subject}

module _ (x : Image) where
  -- 1 where the image is not sound, else what the other checks say
  pub unsound : (v : Verdict) → is_sound x ≡ false → refuse 1 0 ≡ check (is_sound x) 1 0 v
  unfolding check
  unsound v e = rw e

  pub passed : (v : Verdict) → is_sound x ≡ true → v ≡ check (is_sound x) 1 0 v
  unfolding check
  passed v e = rw e

  pub unsound_call : (c : Subject) → is_sound x ≡ false → refuse 1 0 ≡ judge_subject x c
  unfolding judge_act judge_foreign judge_object
  unsound_call (Single a) e = unsound _ e
  unsound_call (Foreign p) e = unsound _ e
  unsound_call (Object n) e = unsound _ e

  pub sound_in : is_sound x ≡ true → Within (get x partitions) (get x slots) x
  sound_in e = sound_within (get x partitions) (get x slots) x (sound_true x e)

  -- it has a head
  pub sound_head : is_sound x ≡ true → (h : ℕ) → h < 2 → Has x (head h)
  sound_head e h l = has_word (get x partitions) (get x slots) x (sound_in e) (head h) (omega arith)

  module _ (a : Act) (j : judge_act x a ≡ allowed) where
    pub act_sound : is_sound x ≡ true
    unfolding judge_act
    act_sound = (check_true _ _ _ _ j).0

    pub act_judged : judge_in x a ≡ allowed
    unfolding judge_act
    act_judged = (check_true _ _ _ _ j).1

  -- a partition whose outlist is asked for is one of P
  module _ (p : Partition) (j : judge_foreign x p ≡ allowed) where
    pub foreign_sound : is_sound x ≡ true
    unfolding judge_foreign
    foreign_sound = (check_true _ _ _ _ j).0

    pub foreign_in : p.0 < get x partitions
    unfolding judge_foreign judge_outlist
    foreign_in = ltb-true _ _ (check_true _ _ _ _ (check_true _ _ _ _ j).1).0

  module _ (n : Name) (j : judge_object x n ≡ allowed) where
    pub object_sound : is_sound x ≡ true
    unfolding judge_object
    object_sound = (check_true _ _ _ _ j).0

    -- an object that is read or asked for has its place in the image
    pub object_in : place (get x slots) n < get x partitions * get x slots
    unfolding judge_object
    object_in = accepted_in _ _ x n (check_true _ _ _ _ j).1

  -- 6 before the operations
  module _ (ops : List Operation) where
    pub miscounted : is_sound x ≡ true → (length ops ≡ 0) ⊎ (most_operations < length ops) → refuse 6 0 ≡ judge_act x (commit ops)
    unfolding judge_act check judge
    miscounted e (inl z) = rw (e, z)
    miscounted e (inr l) = rw (e, lt-leb (length ops) most_operations l, both_false (ltb 0 (length ops)))

    pub counted : is_sound x ≡ true → 0 < length ops → length ops ≤ most_operations
        → (p s : ℕ) → p ≡ get x partitions → s ≡ get x slots → judge_ops p s x 1 ops ≡ judge_act x (commit ops)
    unfolding judge_act check judge
    counted e z l p s h i = rw (h, i, e, lt-ltb 0 (length ops) z, le-leb (length ops) most_operations l)

    pub operations_judged : judge_act x (commit ops) ≡ allowed → judge_ops (get x partitions) (get x slots) x 1 ops ≡ allowed
    unfolding judge
    operations_judged j = (check_true _ _ _ _ (act_judged (commit ops) j)).1

    -- no more are written than it has
    pub all_taken : judge_act x (commit ops) ≡ allowed → take most_operations ops ≡ ops
    unfolding judge
    all_taken j = take_all most_operations ops (leb-true _ _ (both_true (ltb 0 (length ops)) (leb (length ops) most_operations) (check_true _ _ _ _ (act_judged (commit ops) j)).0).1)
