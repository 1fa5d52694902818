-- With no operation and no hold in a phase, a chain is a chain of references at the opening: nothing that was done before the opening starts a chain.
-- Assumes nothing.
use Prim.Native.Nat.{ℕ, ◌≤◌, ◌<◌}
use mathlib.Core.Path.{◌≡◌, refl, subst}
use mathlib.Core.List.{List, [], ◌∷◌}
use mathlib.Core.Logic.{◌⊎◌, inl, inr, ⊎_elim}
use native.Mathlib.Omega.{arith}
use lib.ListN.{length}
use Rattle.kinds.specs.declared.Single.TheVariants.{Open, Trace, Close, Local, Hold, Drop}
use Rattle.model.specs.Image.{Image}
use Rattle.model.specs.Spread.{start, step}
use Rattle.model.specs.Acts.{Act, commit, single}
use Rattle.model.specs.Chains.{Leads, Step, op, did, steps, Above, bare, more, Since, last, before, Chain, from_anchor, created, stored_field, stored_root, stored_handle, along_held, along_stored, to_opening, ChainTo}

-- a step that creates an object or stores a reference, and so may start a chain
abbrev Starts : Step → Type 0
Starts (op o) = Unit {0}
Starts (did Open) = ⊥
Starts (did (Trace p)) = ⊥
Starts (did Close) = ⊥
Starts (did (Local p)) = ⊥
Starts (did (Hold h n)) = Unit {0}
Starts (did (Drop h)) = ⊥

-- a history without commits and holds
abbrev pub Quiet : List Act → Type 0
Quiet [] = Unit {0}
Quiet (commit os ∷ acts) = ⊥
Quiet (single a ∷ acts) = (Starts (did a) → ⊥) × Quiet acts

-- what was taken since the opening stands above it
above_length : {base h : List Step} → Above base h → length base ≤ length h
above_length bare = omega arith
above_length (more a) = let l = above_length a in omega arith

since_length : {base h e : List Step} {s : Step} → Since base h s e → length base < length h
since_length (last a) = let l = above_length a in omega arith
since_length (before q) = let l = since_length q in omega arith

-- it is the last step, or was taken before that
since_cases : {base h e : List Step} {s : Step} → Since base h s e → (b : Step) (t : List Step) → h ≡ b ∷ t → (s ≡ b) ⊎ Since base t s e
since_cases (last a) b t q = inl (cc)
since_cases {base = base} {e = e} {s = s} (before {h = h} r) b t q = let d : h ≡ t = cc in inr (subst (λ (u : List Step). Since base u s e) d r)

no_start : (base : List Step) (acts : List Act) → Quiet acts → (s : Step) (e : List Step) → Starts s → Since base (steps acts base) s e → ⊥
unfolding steps
no_start base [] q s e t r = let l = since_length r in omega arith
no_start base (commit os ∷ acts) q s e t r = q
no_start base (single a ∷ acts) q s e t r =
    ⊎_elim (λ d. q.0 (subst Starts d t)) (no_start base acts q.1 s e t) (since_cases r (did a) (steps acts base) refl)

held : (S : ℕ) (x : Image) (base : List Step) (Taken : Step → List Step → Type 0) (i b : ℕ) → ((s : Step) (e : List Step) → Starts s → Taken s e → ⊥) → Chain S x base Taken i b → Leads S x i
held S x base Taken i b never (from_anchor {a = a} l n) = start (a, l, n)
held S x base Taken i b never (created t) = absurd (never _ _ tt t)
held S x base Taken i b never (stored_field t) = absurd (never _ _ tt t)
held S x base Taken i b never (stored_root t) = absurd (never _ _ tt t)
held S x base Taken i b never (stored_handle t) = absurd (never _ _ tt t)
held S x base Taken i b never (along_held {k = k} c l n) = step (held S x base Taken _ _ never c) (k, l, n)
held S x base Taken i b never (along_stored c t) = absurd (never _ _ tt t)

pub quiet : (S : ℕ) (earlier : List Act) (x : Image) (acts : List Act) → Quiet acts → (j : ℕ) → ChainTo S earlier x acts j → Leads S x j
quiet S earlier x acts q j c = held S x (to_opening earlier) _ j _ (no_start (to_opening earlier) acts q) c
