-- `image::mark_word` meets its contract. Assumes nothing.
-- What is read and put goes by keys; an unmarked object gets its mark (`marks`).
use Prim.Native.Nat.{ℕ, ◌*◌, ◌<◌}
use mathlib.Core.Path.{◌≡◌, refl, sym, ap, ◌∙◌}
use mathlib.Core.Logic.{◌≢◌}
use borrow.Author.Tests.{eq-eqb, ne_eqb}
use Rattle.model.specs.Image.{Image, state, flag, get, put, place_of, part_of}
use Rattle.model.specs.Acts.{mark, mark_word}
use Rattle.model.proofs.Keys.{has_put}
use Rattle.image.proofs.Within.{has_word, flag_in}
use Rattle.image.proofs.mark_word.Goals as goal
use Rattle.image.proofs.mark_word.Goals.{After-place_of-j, After-part_of-q}

-- an unmarked object gets its mark
marks : (S w j q u v : ℕ) (x : Image) → u ≡ 0 → v ≡ 2 → w ≢ 0 → j ≡ place_of S w → q ≡ part_of S j → get x (state j) ≡ 1
    → put (put x (flag q) u) (state j) v ≡ mark_word S x w
unfolding mark_word mark
marks S w j q u v x down two some at part one = rw (down, two, part, ne_eqb w 0 some, ← at, eq-eqb _ _ one)

placed : (c : After-place_of-j) → c.place_of-j.result < c.args.p * c.args.s
placed c = rw c.place_of-j.ensures (c.requires.w_bound c.if-w-eq0.false)

part_is : (c : After-part_of-q) → c.part_of-q.result ≡ part_of c.args.s c.place_of-j.result
part_is c = c.part_of-q.ensures ∙ ap (part_of c.args.s) (sym c.place_of-j.ensures)

pub returns-then-w-eq0 : goal.returns-then-w-eq0
unfolding mark_word
returns-then-w-eq0 c = rw c.if-w-eq0.true

pub state_at-requires : goal.state_at-requires
state_at-requires c = has_word _ _ _ c.requires.within (state _) (placed (goal.at.state_at-requires c).After-place_of-j)

pub returns-then-state_at-ne1 : goal.returns-then-state_at-ne1
unfolding mark_word mark
returns-then-state_at-ne1 c =
    rw (ne_eqb _ _ c.if-w-eq0.false, ← c.place_of-j.ensures, ← c.state_at.ensures, ne_eqb _ _ c.if-state_at-ne1.true)

pub put_flag-requires : goal.put_flag-requires
put_flag-requires c =
    let at = goal.at.put_flag-requires c in
    let h = c.requires.within in
    has_word _ _ _ h (flag _) (rw (part_is at.After-part_of-q) (flag_in _ _ _ h _ (placed at.After-place_of-j)))

pub put_state-requires : goal.put_state-requires
put_state-requires c =
    rw c.put_flag.ensures (has_put _ _ _ _ (has_word _ _ _ c.requires.within (state _) (placed (goal.at.put_state-requires c).After-place_of-j)))

pub returns : goal.returns
returns c =
    rw (c.put_state.ensures, c.put_flag.ensures)
    (marks _ _ _ _ _ _ _ refl refl c.if-w-eq0.false c.place_of-j.ensures (part_is (goal.at.returns c).After-part_of-q) (sym c.state_at.ensures ∙ c.if-state_at-ne1.false))
