-- What one written word keeps of soundness: the condition that each kind of word asks, and the moves that acts are rows of.
-- Assumes nothing.
use Prim.Native.Nat.{ℕ, zero, suc, ◌+◌, ◌*◌, ◌-◌, ◌/◌, ◌%◌, ◌≤◌, ◌<◌}
use mathlib.Core.Path.{◌≡◌, refl, sym, ap, ◌∙◌, subst}
use mathlib.Core.Bool.{Bool, true, false, cond}
use mathlib.Core.Logic.{◌≢◌, ◌⊎◌, inl, inr, ⊎_elim}
use native.Mathlib.Omega.{arith}
use lib.Dec.{eqb}
use borrow.Author.Tests.{eqb-true}
use Rattle.loops.specs.Loop.{both}
use Rattle.loops.proofs.Tests.{both_true}
use Rattle.kinds.specs.Names.{radix, most_partitions, word_of}
use Rattle.kinds.specs.Names.{Target}
use Rattle.model.specs.Image.{Image, Key, head, anchor, flag, state, payload, inlist, field, phase, count, allowance, get, put, place_of, part_of, refer, Holder, an_anchor, a_field}
use Rattle.model.specs.Acts.{is_open, mark, mark_word, store, born}
use Rattle.model.specs.Sound.{Limits, NamesUsed, Free, Right, ShutHead, OpenHead, SoundAt}
use Rattle.model.proofs.Keys.{Fits, In, Sized, kind, major, minor, same, touches, NoCount, touches_same, same_touches, in_fits, get_put_apart, get_put_same, sized_put, refer_apart, refer_same, sized_refer, sized_length, length_sized}
use Rattle.model.proofs.Places.{parts, slot_in}
use Rattle.model.proofs.Moves.{Linked, mark_keeps}
use Rattle.model.proofs.Committing.{mark_word_keeps}
use Rattle.model.proofs.Counting.{right_put, right_refer}

-- a key from its numbers
build : ℕ → ℕ → ℕ → Key
build zero m a = head a
build (suc zero) m a = anchor a
build (suc (suc zero)) m a = flag a
build (suc (suc (suc zero))) m a = state a
build (suc (suc (suc (suc zero)))) m a = payload a
build (suc (suc (suc (suc (suc zero))))) m a = field a m
build (suc (suc (suc (suc (suc (suc n)))))) m a = inlist a

build_key : (κ : Key) → build (kind κ) (minor κ) (major κ) ≡ κ
unfolding build
build_key (head h) = refl
build_key (anchor r) = refl
build_key (flag p) = refl
build_key (state j) = refl
build_key (payload j) = refl
build_key (inlist j) = refl
build_key (field j k) = refl

same_key : (κ μ : Key) → same κ μ ≡ true → κ ≡ μ
same_key κ μ e =
    let a = both_true (eqb (kind κ) (kind μ)) (both (eqb (minor κ) (minor μ)) (eqb (major κ) (major μ))) e in
    let b = both_true (eqb (minor κ) (minor μ)) (eqb (major κ) (major μ)) a.1 in
    let k : kind κ ≡ kind μ = eqb-true (kind κ) (kind μ) a.0 in
    let m : minor κ ≡ minor μ = eqb-true (minor κ) (minor μ) b.0 in
    let j : major κ ≡ major μ = eqb-true (major κ) (major μ) b.1 in
    sym (build_key κ) ∙ ap (λ (t : ℕ). build t (minor κ) (major κ)) k ∙ ap (λ (t : ℕ). build (kind μ) t (major κ)) m ∙ ap (λ (t : ℕ). build (kind μ) (minor μ) t) j ∙ build_key μ

-- y is x with v written at κ
pub record Written (n : ℕ) (x : Image) (κ : Key) (v : ℕ) (y : Image) : Type 0 where
  pub sized : Sized n y
  pub here : get y κ ≡ v
  pub others : (μ : Key) → Fits μ → touches κ μ ≡ false → get y μ ≡ get x μ

module _ (n : ℕ) (x : Image) (κ : Key) (v : ℕ) (z : Sized n x) (i : In n κ) where
  pub put_written : Written n x κ v (put x κ v)
  put_written =
      record {
        sized = sized_put n x κ v z;
        here = get_put_same n x κ v z i;
        others = λ μ f e. get_put_apart x κ v μ (in_fits n κ i) f (touches_same κ μ e);
      }

  pub refer_written : (S : ℕ) → Written n x κ v (refer S x κ v)
  refer_written S =
      record {
        sized = sized_refer n S x κ v z;
        here = refer_same n S x κ v z i;
        others = λ μ f e. refer_apart S x κ v μ (in_fits n κ i) f e;
      }

module _ {n : ℕ} {x y : Image} {κ : Key} {v : ℕ} (w : Written n x κ v y) where
  -- a word that is no count is the one that was written, or as before
  pub written_read : (μ : Key) → Fits μ → NoCount μ → ((κ ≡ μ) × (get y μ ≡ v)) ⊎ (get y μ ≡ get x μ)
  written_read μ f c = go (same κ μ) refl
    where
      go : (b : Bool) → same κ μ ≡ b → ((κ ≡ μ) × (get y μ ≡ v)) ⊎ (get y μ ≡ get x μ)
      go true e = let q = same_key κ μ e in inl (q, subst (λ (t : Key). get y t ≡ v) q w.here)
      go false e = inr (w.others μ f (same_touches κ μ c e))

-- a word that names a slot in use
pub record WordUsed (P S : ℕ) (x : Image) (w : ℕ) : Type 0 where
  pub partition : (w - 1) / radix < P
  pub slot : (w - 1) % radix < S
  pub in_use : get x (state (place_of S w)) ≢ 0

-- what may be written at a key: a flag within the rule, a state in use, the payload or a reference of a slot in use, a reference to one
abbrev pub Allowed : ℕ → ℕ → Image → ℕ → Key → Type 0
Allowed P S x v (head h) = Unit {0}
Allowed P S x v (anchor r) = v ≢ 0 → WordUsed P S x v
Allowed P S x v (flag p) = (v ≤ 1) × (P ≤ p → v ≡ 0)
Allowed P S x v (state j) = (v ≢ 0) × (v ≤ 2)
Allowed P S x v (payload j) = get x (state j) ≢ 0
Allowed P S x v (inlist j) = ⊥
Allowed P S x v (field j k) = (get x (state j) ≢ 0) × (v ≢ 0 → WordUsed P S x v)

-- what soundness asks of the slots, the roots, the handles and the flags, whatever the phase
pub record Body (P S : ℕ) (x : Image) : Type 0 where
  pub sized : Sized (P * S) x
  pub states : (j : ℕ) → j < P * S → get x (state j) ≤ 2
  pub free_slots : (j : ℕ) → j < P * S → get x (state j) ≡ 0 → Free x j
  pub references : (κ : Key) → Holder (P * S) κ → get x κ ≢ 0 → NamesUsed P S x κ
  pub right : Right (P * S) S x
  pub flag_bits : (p : ℕ) → p < most_partitions → get x (flag p) ≤ 1
  pub flags_beyond : (p : ℕ) → p < most_partitions → P ≤ p → get x (flag p) ≡ 0

-- and of the head
pub record Head (P S : ℕ) (x : Image) : Type 0 where
  pub phase_bit : get x phase ≤ 1
  pub shut : get x phase ≡ 0 → ShutHead P S x
  pub opened : get x phase ≡ 1 → OpenHead P S x

module _ (P S : ℕ) where
  pub sound_body : (x : Image) → SoundAt P S x → Body P S x
  sound_body x h =
      record {
        sized = sized_length P S x h.length_agrees;
        states = h.states;
        free_slots = h.free_slots;
        references = h.references;
        right = h.right;
        flag_bits = h.flag_bits;
        flags_beyond = h.flags_beyond;
      }

  pub sound_head : (x : Image) → SoundAt P S x → Head P S x
  sound_head x h = record { phase_bit = h.phase_bit; shut = h.shut; opened = h.opened }

  pub sound_of : (x : Image) → Limits P S → Body P S x → Head P S x → SoundAt P S x
  sound_of x l b h =
      record {
        limits = l;
        length_agrees = length_sized P S x b.sized;
        phase_bit = h.phase_bit;
        states = b.states;
        free_slots = b.free_slots;
        references = b.references;
        right = b.right;
        flag_bits = b.flag_bits;
        flags_beyond = b.flags_beyond;
        shut = h.shut;
        opened = h.opened;
      }

  module _ {x y : Image} {κ : Key} {v : ℕ} (may : Allowed P S x v κ) (counts : Right (P * S) S x → Right (P * S) S y) (w : Written (P * S) x κ v y) where
    at : (μ : Key) → κ ≡ μ → Allowed P S x v μ
    at μ e = subst (Allowed P S x v) e may

    -- what is in use stays so
    pub written_used : (j : ℕ) → get x (state j) ≢ 0 → get y (state j) ≢ 0
    written_used j u z = ⊎_elim (λ q. (at (state j) q.0).0 (sym q.1 ∙ z)) (λ q. u (sym q ∙ z)) (written_read w (state j) tt refl)

    pub body_written : Body P S x → Body P S y
    body_written b =
        record {
          sized = w.sized;
          states = λ j l. ⊎_elim (λ q. rw q.1 (at (state j) q.0).1) (λ q. rw q (b.states j l)) (written_read w (state j) tt refl);
          free_slots = λ j l z. free j (b.free_slots j l) (⊎_elim (λ q. absurd ((at (state j) q.0).0 (sym q.1 ∙ z))) (λ q. sym q ∙ z) (written_read w (state j) tt refl));
          references = refs;
          right = counts b.right;
          flag_bits = λ p l. ⊎_elim (λ q. rw q.1 (at (flag p) q.0).0) (λ q. rw q (b.flag_bits p l)) (written_read w (flag p) l refl);
          flags_beyond = λ p l m. ⊎_elim (λ q. q.1 ∙ (at (flag p) q.0).1 m) (λ q. q ∙ b.flags_beyond p l m) (written_read w (flag p) l refl);
        }
      where
        free : (j : ℕ) → (get x (state j) ≡ 0 → Free x j) → get x (state j) ≡ 0 → Free y j
        free j h z =
            record {
              value = ⊎_elim (λ q. absurd (at (payload j) q.0 z)) (λ q. q ∙ (h z).value) (written_read w (payload j) tt refl);
              fields = λ k l. ⊎_elim (λ q. absurd ((at (field j k) q.0).0 z)) (λ q. q ∙ (h z).fields k l) (written_read w (field j k) l refl);
            }

        fresh : (μ : Key) → get y μ ≡ v → (v ≢ 0 → WordUsed P S x v) → get y μ ≢ 0 → NamesUsed P S y μ
        fresh μ e h n =
            let u : WordUsed P S x v = h (λ q. n (e ∙ q)) in
            record {
              partition = rw e u.partition;
              slot = rw e u.slot;
              in_use = rw e (written_used (place_of S v) u.in_use);
            }

        old : (μ : Key) → get y μ ≡ get x μ → (get x μ ≢ 0 → NamesUsed P S x μ) → get y μ ≢ 0 → NamesUsed P S y μ
        old μ e h n =
            let u : NamesUsed P S x μ = h (λ q. n (e ∙ q)) in
            record {
              partition = rw e u.partition;
              slot = rw e u.slot;
              in_use = rw e (written_used (place_of S (get x μ)) u.in_use);
            }

        refs : (μ : Key) → Holder (P * S) μ → get y μ ≢ 0 → NamesUsed P S y μ
        refs _ (an_anchor {a = r} l) =
            ⊎_elim (λ q. fresh (anchor r) q.1 (at (anchor r) q.0)) (λ q. old (anchor r) q (b.references (anchor r) (an_anchor l))) (written_read w (anchor r) l refl)
        refs _ (a_field {j = j} {k = k} l m) =
            ⊎_elim (λ q. fresh (field j k) q.1 (at (field j k) q.0).1) (λ q. old (field j k) q (b.references (field j k) (a_field l m)))
            (written_read w (field j k) m refl)

-- a word outside the head, and what may be written there while the phase is shut: no flag, no mark
abbrev pub Beside : Key → Type 0
Beside (head h) = ⊥
Beside (anchor r) = Unit {0}
Beside (flag p) = Unit {0}
Beside (state j) = Unit {0}
Beside (payload j) = Unit {0}
Beside (inlist j) = ⊥
Beside (field j k) = Unit {0}

abbrev pub Quiet : ℕ → Key → Type 0
Quiet v (head h) = Unit {0}
Quiet v (anchor r) = Unit {0}
Quiet v (flag p) = v ≡ 0
Quiet v (state j) = v ≢ 2
Quiet v (payload j) = Unit {0}
Quiet v (inlist j) = Unit {0}
Quiet v (field j k) = Unit {0}

beside_head : (κ : Key) → Beside κ → (h : ℕ) → touches κ (head h) ≡ false
beside_head (head g) b h = absurd b
beside_head (anchor r) b h = refl
beside_head (flag p) b h = refl
beside_head (state j) b h = refl
beside_head (payload j) b h = refl
beside_head (inlist j) b h = absurd b
beside_head (field j k) b h = refl

-- y is sound, has x's head, and in use what x has in use
pub record Holds (P S : ℕ) (x y : Image) : Type 0 where
  pub sound : SoundAt P S y
  pub heads : (h : ℕ) → h < 5 → get y (head h) ≡ get x (head h)
  pub in_use : (j : ℕ) → get x (state j) ≢ 0 → get y (state j) ≢ 0

module _ (P S : ℕ) where
  pub holds_self : (x : Image) → SoundAt P S x → Holds P S x x
  holds_self x s = record { sound = s; heads = λ h l. refl; in_use = λ j u. u }

  pub holds_more : {x y z : Image} → Holds P S x y → Holds P S y z → Holds P S x z
  holds_more a b =
      record {
        sound = b.sound;
        heads = λ h l. b.heads h l ∙ a.heads h l;
        in_use = λ j u. b.in_use j (a.in_use j u);
      }

  -- a phase that is open, with its allowance and its count
  pub open_head : (x : Image) → get x phase ≡ 1 → get x allowance ≤ P + P * S → get x count ≤ get x allowance → Head P S x
  open_head x o a c = record { phase_bit = omega arith; shut = λ z. absurd (omega arith); opened = λ e. record { allowed = a; counted = c } }

  -- a word of the head
  pub head_written : {x y : Image} {h v : ℕ} → (Right (P * S) S x → Right (P * S) S y) → Written (P * S) x (head h) v y → SoundAt P S x → Head P S y → SoundAt P S y
  head_written {x} {y} {h} {v} c w s e = sound_of P S y s.limits (body_written P S {κ = head h} tt c w (sound_body P S x s)) e

  -- a word beside it
  module _ {x y : Image} {κ : Key} {v : ℕ} (beside : Beside κ) (allowed : Allowed P S x v κ) (quiet : get x phase ≡ 0 → Quiet v κ)
      (counts : Right (P * S) S x → Right (P * S) S y) (w : Written (P * S) x κ v y) where
    pub holds_written : SoundAt P S x → Holds P S x y
    holds_written s =
        record {
          sound = sound_of P S y s.limits (body_written P S allowed counts w (sound_body P S x s)) (phases (sound_head P S x s));
          heads = same_head;
          in_use = written_used P S allowed counts w;
        }
      where
        same_head : (h : ℕ) → h < 5 → get y (head h) ≡ get x (head h)
        same_head h l = w.others (head h) l (beside_head κ beside h)

        calm : (μ : Key) → get x phase ≡ 0 → κ ≡ μ → Quiet v μ
        calm μ z e = subst (Quiet v) e (quiet z)

        still : get x phase ≡ 0 → ShutHead P S x → ShutHead P S y
        still z t =
            record {
              counted = same_head 3 (omega arith) ∙ t.counted;
              allowed = same_head 4 (omega arith) ∙ t.allowed;
              flags = λ p l. ⊎_elim (λ q. q.1 ∙ calm (flag p) z q.0) (λ q. q ∙ t.flags p l) (written_read w (flag p) l refl);
              unmarked = λ j l e.
                  ⊎_elim (λ q. calm (state j) z q.0 (sym q.1 ∙ e)) (λ q. t.unmarked j l (sym q ∙ e)) (written_read w (state j) tt refl);
            }

        phases : Head P S x → Head P S y
        phases t =
            let e : get y phase ≡ get x phase = same_head 2 (omega arith) in
            let c : get y count ≡ get x count = same_head 3 (omega arith) in
            let a : get y allowance ≡ get x allowance = same_head 4 (omega arith) in
            record {
              phase_bit = rw e t.phase_bit;
              shut = λ z. still (sym e ∙ z) (t.shut (sym e ∙ z));
              opened = λ o. let h = t.opened (sym e ∙ o) in record { allowed = rw a h.allowed; counted = rw (a, c) h.counted };
            }

  -- The moves. A flag within the rule, down while the phase is shut
  pub holds_flag : (x : Image) (p v : ℕ) → p < most_partitions → v ≤ 1 → (P ≤ p → v ≡ 0) → (get x phase ≡ 0 → v ≡ 0) → SoundAt P S x → Holds P S x (put x (flag p) v)
  holds_flag x p v l b f q s =
      holds_written {κ = flag p} tt (b, f) q (right_put (P * S) S x (flag p) v l (λ j k. refl) (λ i. refl)) (put_written (P * S) x (flag p) v (sound_body P S x s).sized l) s

  -- a state in use, no mark while the phase is shut
  pub holds_state : (x : Image) (j v : ℕ) → j < P * S → v ≢ 0 → v ≤ 2 → (get x phase ≡ 0 → v ≢ 2) → SoundAt P S x → Holds P S x (put x (state j) v)
  holds_state x j v l u b q s =
      holds_written {κ = state j} tt (u, b) q (right_put (P * S) S x (state j) v tt (λ j k. refl) (λ i. refl)) (put_written (P * S) x (state j) v (sound_body P S x s).sized l) s

  -- the payload of an object
  pub holds_payload : (x : Image) (j v : ℕ) → j < P * S → get x (state j) ≢ 0 → SoundAt P S x → Holds P S x (put x (payload j) v)
  holds_payload x j v l u s =
      holds_written {κ = payload j} tt u (λ z. tt) (right_put (P * S) S x (payload j) v tt (λ j k. refl) (λ i. refl)) (put_written (P * S) x (payload j) v (sound_body P S x s).sized l) s

  -- a mark of a place while the phase is open
  pub holds_mark : (x : Image) (j : ℕ) → j < P * S → get x phase ≡ 1 → SoundAt P S x → Holds P S x (mark S x j)
  holds_mark x j l o s =
      let m = parts P S s.limits.some_slot j l in
      let b = s.limits.partitions_most in
      let y : Image = put x (flag (part_of S j)) 0 in
      let down : Holds P S x y = holds_flag x (part_of S j) 0 (omega arith) (omega arith) (λ q. refl) (λ q. refl) s in
      let e : get y phase ≡ get x phase = down.heads 2 (omega arith) in
      let two : ◌≢◌ {A = ℕ} 2 0 = λ q. omega arith in
      mark_keeps P S s.limits (Holds P S x) x j
      (λ q. holds_more down (holds_state y j 2 l two (omega arith) (λ z. absurd (omega arith)) down.sound))
      (λ n. holds_self x s)

  -- the place of a word that names a slot
  pub word_place : (w : ℕ) → 0 < S → (w - 1) / radix < P → (w - 1) % radix < S → place_of S w < P * S
  unfolding place_of
  word_place w some l m = slot_in P S some ((w - 1) / radix) ((w - 1) % radix) l m

  pub reference_place : (x : Image) (κ : Key) → Holder (P * S) κ → get x κ ≢ 0 → SoundAt P S x → place_of S (get x κ) < P * S
  reference_place x κ h n s = let u = s.references κ h n in word_place (get x κ) s.limits.some_slot u.partition u.slot

  -- what the theorems over histories ask of an image
  pub sound_linked : (x : Image) → SoundAt P S x → Linked P S x
  sound_linked x s =
      record {
        size = sized_length P S x s.length_agrees;
        states = s.states;
        refs = λ κ h n. (reference_place x κ h n s, (s.references κ h n).in_use);
        free = λ j k l m z. (s.free_slots j l z).fields k m;
      }

  -- a mark of what a word names
  pub holds_mark_word : (x : Image) (w : ℕ) → (w ≢ 0 → place_of S w < P * S) → get x phase ≡ 1 → SoundAt P S x → Holds P S x (mark_word S x w)
  holds_mark_word x w l o s =
      mark_word_keeps P S s.limits (Holds P S x) x w (λ n. holds_mark x (place_of S w) (l n) o s) (λ e. holds_self x s)

  -- a reference of a root, a handle or an object, to nothing or an object
  abbrev pub HolderUsed : Image → Key → Type 0
  HolderUsed x (head h) = ⊥
  HolderUsed x (anchor r) = Unit {0}
  HolderUsed x (flag p) = ⊥
  HolderUsed x (state j) = ⊥
  HolderUsed x (payload j) = ⊥
  HolderUsed x (inlist j) = ⊥
  HolderUsed x (field j k) = get x (state j) ≢ 0

  pub holds_refer : (x : Image) (κ : Key) (w : ℕ) → Holder (P * S) κ → HolderUsed x κ → (w ≢ 0 → WordUsed P S x w) → SoundAt P S x → Holds P S x (refer S x κ w)
  holds_refer x _ w (an_anchor {a = r} l) u t s =
      holds_written {κ = anchor r} tt t (λ z. tt) (right_refer (P * S) S x (anchor r) w (an_anchor l) (sound_body P S x s).sized) (refer_written (P * S) x (anchor r) w (sound_body P S x s).sized l S) s
  holds_refer x _ w (a_field {j = j} {k = k} l m) u t s =
      holds_written {κ = field j k} tt (u, t) (λ z. tt) (right_refer (P * S) S x (field j k) w (a_field l m) (sound_body P S x s).sized) (refer_written (P * S) x (field j k) w (sound_body P S x s).sized (l, m) S) s

  holder_still : {x y : Image} {κ : Key} → Holder (P * S) κ → Holds P S x y → HolderUsed x κ → HolderUsed y κ
  holder_still (an_anchor l) h u = tt
  holder_still (a_field {j = j} l m) h u = h.in_use j u

  word_still : {x y : Image} {w : ℕ} → Holds P S x y → WordUsed P S x w → WordUsed P S y w
  word_still {w = w} h u = record { partition = u.partition; slot = u.slot; in_use = h.in_use (place_of S w) u.in_use }

  pub holds_store : (x : Image) (κ : Key) (t : Target) → Holder (P * S) κ → HolderUsed x κ → (word_of t ≢ 0 → WordUsed P S x (word_of t)) → SoundAt P S x
      → Holds P S x (store S x κ t)
  unfolding store
  holds_store x κ t h u d s = go (is_open x) refl
    where
      w : ℕ
      w = word_of t

      go : (b : Bool) → is_open x ≡ b → Holds P S x (refer S (cond b (mark_word S x w) x) κ w)
      go true e =
          let m : Holds P S x (mark_word S x w) =
          holds_mark_word x w (λ n. word_place w s.limits.some_slot (d n).partition (d n).slot) (eqb-true (get x phase) 1 e) s in
          holds_more m (holds_refer (mark_word S x w) κ w h (holder_still h m u) (λ n. word_still m (d n)) m.sound)
      go false e = holds_refer x κ w h u d s

  -- an object is born
  pub holds_born : (x : Image) (j v : ℕ) → j < P * S → SoundAt P S x → Holds P S x (born x j v)
  unfolding born
  holds_born x j v l s = go (is_open x) refl
    where
      with_payload : (c : ℕ) → c ≢ 0 → c ≤ 2 → (get x phase ≡ 0 → c ≢ 2) → Holds P S x (put (put x (state j) c) (payload j) v)
      with_payload c n b q =
          let m : Holds P S x (put x (state j) c) = holds_state x j c l n b q s in
          let e : get (put x (state j) c) (state j) ≡ c = get_put_same (P * S) x (state j) c (sound_body P S x s).sized l in
          holds_more m (holds_payload (put x (state j) c) j v l (λ z. n (sym e ∙ z)) m.sound)

      go : (b : Bool) → is_open x ≡ b → Holds P S x (put (put x (state j) (cond b 2 1)) (payload j) v)
      go true e = let o : get x phase ≡ 1 = eqb-true (get x phase) 1 e in with_payload 2 (λ q. omega arith) (omega arith) (λ z q. omega arith)
      go false e = with_payload 1 (λ q. omega arith) (omega arith) (λ z q. omega arith)
