-- Keys by what they hold: a reference (a root, a handle or a field), or no state, no flag and no reference; and which of them are apart.
-- Assumes nothing.
use Prim.Native.Nat.{ℕ, ◌<◌}
use mathlib.Core.Path.{◌≡◌, refl, ap}
use mathlib.Core.Bool.{false}
use mathlib.Core.Logic.{◌⊎◌, inl, inr}
use native.Mathlib.Decide.{ℕ_discrete}
use borrow.Author.Tests.{eq-eqb, ne_eqb}
use Rattle.model.specs.Image.{Key, head, anchor, flag, state, payload, field, Holder, an_anchor, a_field}
use Rattle.model.proofs.Keys.{In, same, touches}

pub holder_in : {n : ℕ} {κ : Key} → Holder n κ → In n κ
holder_in (an_anchor l) = l
holder_in (a_field l m) = (l, m)

-- keys that hold no state, no flag and no reference
pub data Plain (n : ℕ) : Key → Type 0 where
  a_head : {h : ℕ} → h < 5 → Plain n (head h)
  a_payload : {i : ℕ} → i < n → Plain n (payload i)

pub plain_in : {n : ℕ} {κ : Key} → Plain n κ → In n κ
plain_in (a_head l) = l
plain_in (a_payload l) = l

pub plain_state : {n : ℕ} {κ : Key} → Plain n κ → (j : ℕ) → same κ (state j) ≡ false
plain_state (a_head l) j = refl
plain_state (a_payload l) j = refl

pub plain_flag : {n : ℕ} {κ : Key} → Plain n κ → (j : ℕ) → same κ (flag j) ≡ false
plain_flag (a_head l) j = refl
plain_flag (a_payload l) j = refl

pub plain_holder : {n : ℕ} {κ μ : Key} → Plain n κ → Holder n μ → same κ μ ≡ false
plain_holder (a_head l) (an_anchor m) = refl
plain_holder (a_head l) (a_field m k) = refl
plain_holder (a_payload l) (an_anchor m) = refl
plain_holder (a_payload l) (a_field m k) = refl

pub holder_state : {n : ℕ} {κ : Key} → Holder n κ → (j : ℕ) → touches κ (state j) ≡ false
holder_state (an_anchor l) j = refl
holder_state (a_field l m) j = refl

pub state_holder : {n : ℕ} {κ : Key} → Holder n κ → (j : ℕ) → same (state j) κ ≡ false
state_holder (an_anchor l) j = refl
state_holder (a_field l m) j = refl

pub holder_flag : {n : ℕ} {κ : Key} → Holder n κ → (j : ℕ) → touches κ (flag j) ≡ false
holder_flag (an_anchor l) j = refl
holder_flag (a_field l m) j = refl

pub flag_holder : {n : ℕ} {κ : Key} → Holder n κ → (j : ℕ) → same (flag j) κ ≡ false
flag_holder (an_anchor l) j = refl
flag_holder (a_field l m) j = refl

pub holder_head : {n : ℕ} {κ : Key} → Holder n κ → (j : ℕ) → touches κ (head j) ≡ false
holder_head (an_anchor l) j = refl
holder_head (a_field l m) j = refl

pub head_holder : {n : ℕ} {κ : Key} → Holder n κ → (j : ℕ) → same (head j) κ ≡ false
head_holder (an_anchor l) j = refl
head_holder (a_field l m) j = refl

-- two holders are one, or apart
pub holder_same : {n : ℕ} {κ μ : Key} → Holder n κ → Holder n μ → (κ ≡ μ) ⊎ (touches κ μ ≡ false)
holder_same (an_anchor {a = r} l) (an_anchor {a = q} m) = go (ℕ_discrete r q)
  where
    go : Dec (r ≡ q) → (anchor r ≡ anchor q) ⊎ (touches (anchor r) (anchor q) ≡ false)
    go (yes e) = inl (ap anchor e)
    go (no e) = inr (ne_eqb r q e)
holder_same (an_anchor l) (a_field m k) = inr refl
holder_same (a_field l m) (an_anchor k) = inr refl
holder_same (a_field {j = i} {k = k} l m) (a_field {j = j} {k = c} l' m') = go (ℕ_discrete i j) (ℕ_discrete k c)
  where
    go : Dec (i ≡ j) → Dec (k ≡ c) → (field i k ≡ field j c) ⊎ (touches (field i k) (field j c) ≡ false)
    go (yes e) (yes f) = inl (cc)
    go (yes e) (no f) = inr (rw (ne_eqb k c f))
    go (no e) (yes f) = inr (rw (eq-eqb k c f, ne_eqb i j e))
    go (no e) (no f) = inr (rw (ne_eqb k c f))
