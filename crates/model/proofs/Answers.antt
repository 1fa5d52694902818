-- What acts answer, as rows that compute; and the shortcuts that the paper forbids, each with an example that it would break. Two partitions of four slots.
-- Assumes nothing.
use Prim.Native.Nat.{ℕ, ◌+◌}
use mathlib.Core.Path.{refl}
use mathlib.Core.Bool.{cond}
use mathlib.Core.List.{List, [], ◌∷◌, ◌++◌}
use Rattle.loops.specs.Cases.{case, Agree}
use Rattle.kinds.specs.Names.{partition, named, session, radix}
use Rattle.kinds.specs.Operations.{new, set_to, val, root_to, unroot, three}
use Rattle.kinds.specs.declared.Single.TheVariants.{Open, Trace, Close, Local, Hold, Drop}
use Rattle.kinds.specs.Answers.{Verdict}
use Rattle.std.specs.Prelude.{Ok, Err}
use Rattle.model.proofs.Computing.{imaging, looping, acting, judging, asking, sounding}
use Rattle.model.specs.Image.{Image, handle, count, allowance, inlist, get, put, blank}
use Rattle.model.specs.Acts.{Act, commit, single, local_up, local_freed, unmarked, apply}
use Rattle.model.specs.Judge.{judge}
use Rattle.model.specs.Questions.{ask}
use Rattle.model.specs.Sound.{is_sound}
use Rattle.model.specs.History.{unanchored}

-- what a row reads off: numbers of the heap; or of an act its refusal's number and extra answer, or else the allowance, the count and the number of unmarked
-- objects, which a close frees; or of a local collection the number freed, the count of the object at place 6, and the objects left
pub data Shown : Type 0 where
  number : ℕ → Shown
  refused : ℕ → ℕ → Shown
  accepted : ℕ → ℕ → ℕ → Shown
  collected : ℕ → ℕ → ℕ → Shown

abbrev pub shown : Verdict → Image → Shown
shown (Ok _) img = accepted (get img allowance) (get img count) (unmarked 8 img)
shown (Err r) img = refused r.number r.extra

-- acts, each left out where it is refused
abbrev pub next : Verdict → Image → Image → Image
next (Ok _) old new = new
next (Err r) old new = old

abbrev pub after : Image → List Act → Image
after img [] = img
after img (a ∷ rest) = after (next (judge 2 4 img a) img (apply 2 4 img a)) rest

-- what the last act says after the others
abbrev pub says : List Act → Act → Shown
says acts a = let img = after (blank 2 4) acts in shown (judge 2 4 img a) img

-- root to (0,0), the others unreferenced; both partitions traced, so that (0,0) alone is marked and both are clean
abbrev traced_all : List Act
traced_all = commit (new 0 0 1 ∷ new 0 1 2 ∷ new 1 0 3 ∷ new 1 1 4 ∷ root_to 0 0 0 ∷ []) ∷ single Open ∷ single (Trace (partition 0)) ∷ single (Trace (partition 1)) ∷ []

-- the shortcuts that the paper forbids, each with an example that it would break
pub shortcuts :
    Agree
    -- a stored target is marked whether or not its holder is, so that its partition must be traced again
    (case (says (traced_all ++ (commit (set_to 0 1 0 1 0 ∷ []) ∷ [])) (single Close)) (refused 14 1) ∷
    -- also where the target is in its holder's partition
    case (says (traced_all ++ (commit (set_to 0 0 0 0 1 ∷ []) ∷ [])) (single Close)) (refused 14 0) ∷
    -- no close without a root, though all partitions are clean
    case (says (traced_all ++ (commit (unroot 0 ∷ []) ∷ [])) (single Close)) (refused 12 0) ∷
    -- a refused trace does not count, and a commit does not restart the count
    case (says (traced_all ++ (single (Trace (partition 0)) ∷ commit (val 0 0 9 ∷ []) ∷ [])) (single Close)) (accepted 5 2 3) ∷
    -- a trace marks what it reaches and no more, and it marks that
    case (says (commit three ∷ commit (new 1 1 40 ∷ []) ∷ single Open ∷ single (Trace (partition 0)) ∷ []) (single (Trace (partition 1)))) (accepted 5 1 2) ∷
    -- a partition that was clean is not, once a trace of another marks an object of it
    case (says (commit three ∷ single Open ∷ single (Trace (partition 0)) ∷ single (Trace (partition 1)) ∷ []) (single Close)) (refused 14 0) ∷
    -- the allowance is P plus the objects in use that neither a root nor a handle names
    case (number (2 + unanchored 2 4 (after (blank 2 4) (commit three ∷ [])))) (number 4) ∷
    [])
unfolding imaging looping acting judging unanchored
shortcuts = (refl, (refl, (refl, (refl, (refl, (refl, (refl, tt)))))))

-- local collections after the paper's transaction and one more
abbrev frees : List Act → ℕ → Shown
frees acts p = let img = after (blank 2 4) acts in collected (local_freed 2 4 p img) (get img (inlist 6)) (unmarked 8 (local_up 2 4 p img))

pub locals :
    Agree
    -- a cycle over two partitions stays, whichever is collected
    (case (frees (commit three ∷ commit (new 0 2 1 ∷ new 1 2 2 ∷ set_to 0 2 0 1 2 ∷ set_to 1 2 0 0 2 ∷ []) ∷ []) 0) (collected 0 1 5) ∷
    -- a cycle inside one goes
    case (frees (commit three ∷ commit (new 0 2 1 ∷ new 0 3 2 ∷ set_to 0 2 0 0 3 ∷ set_to 0 3 0 0 2 ∷ []) ∷ []) 0) (collected 2 0 3) ∷
    -- two fields count two, and when their object goes, what they named is counted 0 and goes next
    case (frees (commit three ∷ commit (new 0 2 1 ∷ new 1 2 2 ∷ set_to 0 2 0 1 2 ∷ set_to 0 2 1 1 2 ∷ []) ∷ []) 0) (collected 1 2 4) ∷
    case (frees (commit three ∷ commit (new 0 2 1 ∷ new 1 2 2 ∷ set_to 0 2 0 1 2 ∷ set_to 0 2 1 1 2 ∷ []) ∷ single (Local (partition 0)) ∷ []) 1) (collected 1 0 3) ∷
    -- no flag changes: what is not clean stays so, and what is clean too
    case (says (commit three ∷ single Open ∷ single (Local (partition 0)) ∷ []) (single Close)) (refused 14 0) ∷
    case (says (traced_all ++ (single (Local (partition 0)) ∷ [])) (single Close)) (accepted 5 2 2) ∷
    -- its refusals: 7 before 12
    case (says [] (single (Local (partition 2)))) (refused 7 0) ∷
    case (says [] (single (Local (partition 0)))) (refused 12 0) ∷
    [])
unfolding imaging looping acting judging
locals = (refl, (refl, (refl, (refl, (refl, (refl, (refl, (refl, tt))))))))

-- session handles: hold h p s, and drop h
abbrev hold : ℕ → ℕ → ℕ → Act
hold h p s = single (Hold (session h) (named p s))

abbrev letting : ℕ → Act
letting h = single (Drop (session h))

-- the paper's transaction, and beside it (0,2), which refers to (0,3), and (1,1): no root leads to these three
abbrev beside : List Act
beside = commit three ∷ commit (new 0 2 1 ∷ new 0 3 2 ∷ new 1 1 3 ∷ set_to 0 2 0 0 3 ∷ []) ∷ []

pub held_rows :
    Agree
    -- open marks what a handle names, the last handle too, and leaves it out of the allowance; so does W
    (case (says (beside ++ (hold 31 1 1 ∷ single Open ∷ [])) (single (Trace (partition 0)))) (accepted 6 0 4) ∷
    case (number (2 + unanchored 2 4 (after (blank 2 4) (beside ++ (hold 31 1 1 ∷ []))))) (number 6) ∷
    -- in a phase a hold marks its target, so that the target's partition must be traced again; then the close keeps it
    case (says (traced_all ++ (hold 0 1 0 ∷ [])) (single Close)) (refused 14 1) ∷
    case (says (traced_all ++ (hold 0 1 0 ∷ single (Trace (partition 1)) ∷ [])) (single Close)) (accepted 5 3 2) ∷
    -- and of what was marked before no flag changes
    case (says (traced_all ++ (hold 0 0 0 ∷ [])) (single Close)) (accepted 5 2 3) ∷
    -- a drop frees nothing, and changes no mark and no flag
    case (number (unmarked 8 (after (blank 2 4) (beside ++ (hold 0 0 2 ∷ letting 0 ∷ []))))) (number 6) ∷
    case (says (traced_all ++ (hold 0 0 0 ∷ letting 0 ∷ [])) (single Close)) (accepted 5 2 3) ∷
    -- with a handle in use and no root there is no open, no close and no local collection
    case (says (commit (new 0 0 1 ∷ []) ∷ hold 0 0 0 ∷ []) (single Open)) (refused 12 0) ∷
    case (says (traced_all ++ (hold 0 0 0 ∷ commit (unroot 0 ∷ []) ∷ [])) (single Close)) (refused 12 0) ∷
    case (says (commit (new 0 0 1 ∷ []) ∷ hold 0 0 0 ∷ []) (single (Local (partition 0)))) (refused 12 0) ∷
    -- a local collection keeps what a handle names and what that leads to inside the partition; after the drop it frees both
    case (frees (beside ++ (hold 0 0 2 ∷ [])) 0) (collected 0 0 6) ∷
    case (frees (beside ++ (hold 0 0 2 ∷ letting 0 ∷ [])) 0) (collected 2 0 4) ∷
    -- the question starts from handles as well, 16 counts them as roots, and soundness covers them
    case (number (cond (ask 2 4 (after (blank 2 4) beside) 3) 1 0)) (number 0) ∷
    case (number (cond (ask 2 4 (after (blank 2 4) (beside ++ (hold 0 0 2 ∷ []))) 3) 1 0)) (number 1) ∷
    case (shown (judge 2 4 (put (after (blank 2 4) traced_all) (handle 0) (radix + 1)) (single Close)) (blank 2 4)) (refused 16 0) ∷
    case (number (cond (is_sound (blank 2 4)) 1 0)) (number 1) ∷ case (number (cond (is_sound (put (blank 2 4) (handle 31) 1)) 1 0)) (number 0) ∷
    -- refusals of hold: 7 for the handle and for the name, 9; of drop: 7
    case (says [] (hold 32 0 0)) (refused 7 0) ∷ case (says [] (hold 0 2 0)) (refused 7 0) ∷ case (says [] (hold 0 0 4)) (refused 7 0) ∷
    case (says [] (hold 0 0 0)) (refused 9 0) ∷ case (says [] (letting 32)) (refused 7 0) ∷
    -- a hold on a used handle and a drop of an empty one are accepted
    case (says (beside ++ (hold 0 0 2 ∷ [])) (hold 0 1 1)) (accepted 0 0 6) ∷ case (says [] (letting 0)) (accepted 0 0 0) ∷
    [])
unfolding imaging looping acting judging asking sounding unanchored
held_rows = (refl, (refl, (refl, (refl, (refl, (refl, (refl, (refl, (refl, (refl, (refl, (refl, (refl, (refl, (refl, (refl, (refl, (refl, (refl, (refl, (refl, (refl, (refl, (refl, tt))))))))))))))))))))))))
