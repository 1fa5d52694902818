-- `scripts::number::keyword` meets its contract: what is left of the word, after the letters so far, is coded as the whole word is. Assumes nothing.
use Prim.Native.Nat.{◌^◌}
use native.Mathlib.Omega.{arith}
use mathlib.Core.Path.{◌≡◌, sym, ◌∙◌}
use mathlib.Core.Bool.{true, false}
use lib.ListN.{get_or}
use borrow.Author.Tests.{lt-ltb, le-ltb}
use Rattle.loops.proofs.Tests.{both_false}
use Rattle.scripts.specs.Numbers.{is_letter, keyword_of}
use Rattle.scripts.proofs.Keywords.{letter_is, coded_stop, coded_on, coded_end}
use Rattle.scripts.proofs.number.keyword.Goals as goal

pub returns-then-not-is_ascii_lowercase : goal.returns-then-not-is_ascii_lowercase
unfolding keyword_of
returns-then-not-is_ascii_lowercase c =
    let l = c.loop-b in
    let w = c.args.word.now in
    let other : is_letter (get_or w l.b-index 0) ≡ false = letter_is (get_or w l.b-index 0) ∙ sym c.is_ascii_lowercase.ensures.value ∙ c.if-not-is_ascii_lowercase.true in
    coded_stop l.k w l.b-index (omega arith) (rw other) ∙ sym l.invariant

pub returns-then-k-ge72057594037927936 : goal.returns-then-k-ge72057594037927936
unfolding keyword_of
returns-then-k-ge72057594037927936 c =
    let l = c.loop-b in
    let w = c.args.word.now in
    coded_stop l.k w l.b-index (omega arith) (rw (le-ltb l.k (2 ^ 56) (omega (arith, c.if-k-ge72057594037927936.true))) (both_false (is_letter (get_or w l.b-index 0)))) ∙ sym l.invariant

pub loop-b-preserved : goal.loop-b-preserved
loop-b-preserved c =
    let l = c.loop-b in
    let w = c.args.word.now in
    let letter : is_letter (get_or w l.b-index 0) ≡ true = letter_is (get_or w l.b-index 0) ∙ sym c.is_ascii_lowercase.ensures.value ∙ c.if-not-is_ascii_lowercase.false in
    rw c.from.ensures (l.invariant ∙ coded_on l.k w l.b-index (omega arith) (rw (letter, lt-ltb l.k (2 ^ 56) c.if-k-ge72057594037927936.false)))

pub returns : goal.returns
unfolding keyword_of
returns c =
    let l = c.loop-b in
    sym (l.invariant ∙ coded_end l.k c.args.word.now l.b-index (omega arith))
