-- The starred numbers, in a single table covered by one proof: it computes, but for the cuts at 11 to 88 bytes, which are demand 2; and rows of our own in a
-- second. Two partitions of four slots.
-- Assumes nothing.
use Prim.Native.Nat.{ℕ}
use native.Mathlib.Omega.{arith}
use mathlib.Core.Path.{◌≡◌, refl}
use mathlib.Core.Bool.{Bool, true}
use mathlib.Core.List.{List, [], ◌∷◌, ◌++◌}
use lib.Dec.{eqb}
use lib.ListN.{take, drop, replicate}
use borrow.Author.Tests.{eqb-true}
use Rattle.loops.specs.Cases.{case, from_to, Agree}
use Rattle.loops.specs.Loop.{both}
use Rattle.loops.proofs.Tests.{both_true}
use Rattle.kinds.specs.Names.{partition, named, session as handle-of, word_of}
use Rattle.kinds.specs.Answers.{refuse}
use Rattle.kinds.specs.Operations.{new, set_to, root_to, unroot, three}
use Rattle.kinds.specs.declared.Name.{Name}
use Rattle.kinds.specs.declared.Handle.{Handle}
use Rattle.std.specs.Prelude.{Some}
use Rattle.kinds.specs.declared.Single.TheVariants.{Close, Local, Hold, Drop}
use Rattle.kinds.specs.declared.Start.TheVariants.{Root as FromRoot, Handle as FromHandle}
use Rattle.kinds.specs.Answers.{held_from}
use Rattle.std.specs.Prelude.{Ok}
use Rattle.kinds.specs.Answers.{allowed}
use Rattle.lines.proofs.Computing.{reading, printing}
use Rattle.model.proofs.Computing.{imaging, looping, acting, judging, sounding, listing}
use Rattle.lines.specs.declared.line.Line.TheVariants.{Operation, Single}
use Rattle.lines.specs.Cursor.{body, after}
use Rattle.lines.specs.Print.{print}
use Rattle.model.specs.Image.{Image, state, addr, length_of, size, blank, place}
use Rattle.model.specs.Acts.{Act, single}
use Rattle.model.specs.Sessions.{Retains}
use Rattle.holding.specs.Finding as finding
use Rattle.holding.specs.Finding.{explained, denied}
use Rattle.writer.specs.Record.{rule, op_lines, record_of, heading_of}
use Rattle.writer.specs.Write.{splice}
use Rattle.journal.specs.Log.{log_of}
use Rattle.journal.specs.Recover.{act, judge_heading, headed, feed, feed_all, refusal, recovery, answer, recover_of, byte_by, byte_of}
use Rattle.catalogue.specs.Call as call
use Rattle.catalogue.specs.Call.{judge_act, judge_foreign, judge_object, format_of, call_by, listing_of, why_of}
use Rattle.promises.proofs.Cuts.{cut_at}
use Rattle.promises.specs.Calls.{Call, act_of, calling}
use Rattle.promises.specs.Sessions.{HeldSince, held, called}
use Rattle.promises.specs.Paper.{paper_log, three_holding, three_objects, done, opened, freed, closed, refused, Session, next, continued, session, committing, opening, closing, tracing, localizing, holding, dropping}

-- What computes here, by subject (see model/proofs/Computing.antt)
logging : Unit {0}
unfolding record_of heading_of log_of splice
logging = tt

recovering : Unit {0}
unfolding act judge_heading headed feed feed_all answer recover_of body after byte_by
recovering = tt

performing : Unit {0}
unfolding call.perform judge_act judge_foreign judge_object format_of call_by listing_of why_of
performing = tt

explaining : Unit {0}
unfolding finding.some finding.is_to finding.field_to finding.anchor_to finding.fields_along finding.leads_in finding.next finding.names_from finding.head_of finding.distance
    finding.chain_of finding.turns finding.words_of finding.held_by finding.held_of
explaining = tt

-- a phase of four traces
abbrev four_traces : List Call
four_traces = opening ∷ tracing 1 ∷ tracing 0 ∷ tracing 1 ∷ tracing 0 ∷ closing ∷ []

-- root to (0,0), (1,0) unreferenced; both partitions traced, then (0,0) refers to (1,0)
abbrev late : List Call
late = committing (new 0 0 1 ∷ new 1 0 2 ∷ root_to 0 0 0 ∷ []) ∷ opening ∷ tracing 0 ∷ tracing 1 ∷ committing (set_to 0 0 0 1 0 ∷ []) ∷ []

-- two roots on one object
abbrev two_roots : Call
two_roots = committing (new 0 0 1 ∷ root_to 0 0 0 ∷ root_to 1 0 0 ∷ [])

-- a root on (0,0); in its partition a cycle of (0,1) and (0,2), and (0,3), which only (1,0) names, itself unreferenced
abbrev garbage : Call
garbage =
    committing
    (new 0 0 1 ∷ new 0 1 2 ∷ new 0 2 3 ∷ new 0 3 4 ∷ new 1 0 5 ∷ root_to 0 0 0 ∷ set_to 0 1 0 0 2 ∷ set_to 0 2 0 0 1 ∷ set_to 1 0 0 0 3 ∷ [])

-- two restore points, (0,0) under root 0 and (1,0) under root 1, which refers to (0,1); a session holds the second, and its root expires
abbrev browsing : List Call
browsing =
    committing (new 0 0 1 ∷ new 1 0 2 ∷ new 0 1 3 ∷ set_to 1 0 0 0 1 ∷ root_to 0 0 0 ∷ root_to 1 1 0 ∷ []) ∷ holding 31 1 0 ∷ committing (unroot 1 ∷ []) ∷ []

-- a phase of three traces, and a local collection of each partition
abbrev collecting : List Call
collecting = opening ∷ tracing 0 ∷ tracing 1 ∷ tracing 0 ∷ closing ∷ localizing 1 ∷ localizing 0 ∷ []

-- a log with a heading of edition e, and more behind it
abbrev behind : ℕ → List ℕ → List ℕ
behind e more = heading_of (rule e 2 4) ++ more

-- the log of a formatting, and a later heading of edition e
abbrev headings : ℕ → List ℕ
headings e = behind 4 (heading_of (rule e 2 4))

-- the line of a hold
abbrev hold_line : List ℕ
hold_line = record_of (single (Hold (handle-of 31) (named 0 1)))

-- a line of 21 bytes: `new` 4294967295 4294 0
abbrev overlong : List ℕ
overlong = print (Operation (new 4294967295 4294 0))

-- the longest line of a heap, 21 bytes: `new` 15 100 4294967295
abbrev longest_line : List ℕ
longest_line = print (Operation (new 15 100 4294967295))

-- a heading of edition e with the largest number as P: 21 bytes where S has three digits
abbrev wide : ℕ → ℕ → List ℕ
wide e S = heading_of (rule e 4294967295 S)

-- the paper's log, a byte of its line 5 altered
abbrev altered : List ℕ
altered = take 49 (paper_log 4) ++ (120 ∷ drop 50 (paper_log 4))

-- THE STARRED NUMBERS. The first reply of a session is its formatting's.
pub table :
    Agree
    -- P = 2, S = 4: 125 words; object (1,0) begins at 97, its name is 129
    (case (size 2 4) 125 ∷ case (length_of (session []).image) 125 ∷
    case (addr (state (place 4 (named 1 0)))) 97 ∷ case (word_of (Some (named 1 0))) 129 ∷
    -- the paper's log, which these calls write, the bytes after it left as they were: allowance 4, count 4, 0 freed
    case (session (committing three ∷ four_traces)).log (paper_log 4 ++ replicate 68 255) ∷
    case (session (committing three ∷ four_traces)).replies (done ∷ done ∷ opened 4 ∷ done ∷ done ∷ done ∷ done ∷ closed 4 0 ∷ []) ∷
    -- with an unreferenced (1,1): allowance 5, 1 freed
    case (session (committing (three ++ (new 1 1 40 ∷ [])) ∷ four_traces)).replies
    (done ∷ done ∷ opened 5 ∷ done ∷ done ∷ done ∷ done ∷ closed 4 1 ∷ []) ∷
    -- with a cycle that no root reaches: 2 freed
    case (session (committing (three ++ (new 0 2 1 ∷ new 1 2 2 ∷ set_to 0 2 0 1 2 ∷ set_to 1 2 0 0 2 ∷ [])) ∷ four_traces)).replies
    (done ∷ done ∷ opened 6 ∷ done ∷ done ∷ done ∷ done ∷ closed 4 2 ∷ []) ∷
    -- a reference stored after the traces: close answers 14 and 1; then trace 1, close: count 3, 0 freed
    case (session (late ++ (closing ∷ tracing 1 ∷ closing ∷ []))).replies
    (done ∷ done ∷ opened 3 ∷ done ∷ done ∷ done ∷ refused 14 1 ∷ done ∷ closed 3 0 ∷ []) ∷
    -- two roots on one object, no other: allowance P
    case (session (two_roots ∷ opening ∷ tracing 0 ∷ tracing 1 ∷ closing ∷ [])).replies (done ∷ done ∷ opened 2 ∷ done ∷ done ∷ closed 2 0 ∷ []) ∷
    -- the last root goes in a phase: close 12
    case (session (committing three ∷ opening ∷ committing (unroot 0 ∷ []) ∷ closing ∷ [])).replies
    (done ∷ done ∷ opened 4 ∷ done ∷ refused 12 0 ∷ []) ∷
    -- open on an empty heap: 12
    case (session (opening ∷ [])).replies (done ∷ refused 12 0 ∷ []) ∷
    -- trace twice running: 13
    case (session (committing three ∷ opening ∷ tracing 0 ∷ tracing 0 ∷ [])).replies (done ∷ done ∷ opened 4 ∷ done ∷ refused 13 0 ∷ []) ∷
    -- the paper's log, of each edition, cut at 10 bytes: 3 and line 1, zeros
    case (recover_of (take 10 (paper_log 1)) 125) (refusal 125 3 1) ∷ case (recover_of (take 10 (paper_log 2)) 125) (refusal 125 3 1) ∷
    case (recover_of (take 10 (paper_log 3)) 125) (refusal 125 3 1) ∷ case (recover_of (take 10 (paper_log 4)) 125) (refusal 125 3 1) ∷
    -- at 11 to 88: empty heap, kept 11
    from_to 11 88 (λ k. recover_of (take k (paper_log 1)) 125) (recovery 11 (blank 2 4)) ∷
    from_to 11 88 (λ k. recover_of (take k (paper_log 2)) 125) (recovery 11 (blank 2 4)) ∷
    from_to 11 88 (λ k. recover_of (take k (paper_log 3)) 125) (recovery 11 (blank 2 4)) ∷
    from_to 11 88 (λ k. recover_of (take k (paper_log 4)) 125) (recovery 11 (blank 2 4)) ∷
    -- at 89: three objects, kept 89
    case (recover_of (take 89 (paper_log 1)) 125) (recovery 89 three_objects) ∷ case (recover_of (take 89 (paper_log 2)) 125) (recovery 89 three_objects) ∷
    case (recover_of (take 89 (paper_log 3)) 125) (recovery 89 three_objects) ∷ case (recover_of (take 89 (paper_log 4)) 125) (recovery 89 three_objects) ∷
    -- whole: kept 132, the three objects again
    case (recover_of (paper_log 1) 125) (recovery 132 three_objects) ∷ case (recover_of (paper_log 2) 125) (recovery 132 three_objects) ∷
    case (recover_of (paper_log 3) 125) (recovery 132 three_objects) ∷ case (recover_of (paper_log 4) 125) (recovery 132 three_objects) ∷
    [])
unfolding reading printing logging imaging looping acting judging recovering sounding listing performing
table =
    (refl, (refl, (refl, (refl, (refl, (refl, (refl, (refl, (refl, (refl, (refl, (refl, (refl, (refl, (refl, (refl, (refl, (cut_at 1 refl (omega arith) refl refl, (cut_at 2 refl (omega arith) refl refl, (cut_at 3 refl (omega arith) refl refl, (cut_at 4 refl (omega arith) refl refl, (refl, (refl, (refl, (refl, (refl, (refl, (refl, (refl, tt)))))))))))))))))))))))))))))

-- OUR OWN, beside them
pub own_table :
    Agree
    -- a local collection frees a cycle inside its partition and keeps what only an unreferenced object of another names, which goes after that one
    (case (session (garbage ∷ localizing 0 ∷ localizing 1 ∷ localizing 0 ∷ [])).replies (done ∷ done ∷ freed 2 ∷ freed 1 ∷ freed 1 ∷ []) ∷
    -- and in a phase: allowance 6, 2 freed; the close frees the other 2
    case (session (garbage ∷ opening ∷ localizing 0 ∷ tracing 0 ∷ tracing 1 ∷ closing ∷ [])).replies
    (done ∷ done ∷ opened 6 ∷ freed 2 ∷ done ∷ done ∷ closed 2 2 ∷ []) ∷
    -- on an empty heap: 12, and of partition 2: 7
    case (session (localizing 0 ∷ localizing 2 ∷ [])).replies (done ∷ refused 12 0 ∷ refused 7 0 ∷ []) ∷
    -- the outlist of partition 1 is the name of (0,3)
    case (listing_of (session (garbage ∷ [])).image (partition 1)) (Ok (record { number = 1; names = 4 ∷ replicate 511 0 })) ∷
    -- what a session holds is kept through a phase and by local collections though its root expired, with what it refers to; a drop frees nothing; then
    -- the collections free both
    case (session (browsing ++ (collecting ++ (dropping 31 ∷ localizing 1 ∷ localizing 0 ∷ [])))).replies
    (done ∷ done ∷ done ∷ done ∷ opened 3 ∷ done ∷ done ∷ done ∷ closed 3 0 ∷ freed 0 ∷ freed 0 ∷ done ∷ freed 1 ∷ freed 1 ∷ []) ∷
    -- or the next close does
    case (session (browsing ++ (dropping 31 ∷ opening ∷ tracing 0 ∷ tracing 1 ∷ closing ∷ []))).replies
    (done ∷ done ∷ done ∷ done ∷ done ∷ opened 4 ∷ done ∷ done ∷ closed 2 2 ∷ []) ∷
    -- held after both partitions were traced, (1,0) is marked: close answers 14 and 1, and then keeps it; dropped before the close, it is still marked
    case (session (committing (new 0 0 1 ∷ new 1 0 2 ∷ root_to 0 0 0 ∷ []) ∷ opening ∷ tracing 0 ∷ tracing 1 ∷ holding 0 1 0 ∷ closing ∷ tracing 1 ∷ dropping 0 ∷ closing ∷ [])).replies
    (done ∷ done ∷ opened 3 ∷ done ∷ done ∷ done ∷ refused 14 1 ∷ done ∷ done ∷ closed 3 0 ∷ []) ∷
    -- with a handle in use and no root: 12
    case (session (committing (new 0 0 1 ∷ []) ∷ holding 0 0 0 ∷ opening ∷ localizing 0 ∷ [])).replies (done ∷ done ∷ done ∷ refused 12 0 ∷ refused 12 0 ∷ []) ∷
    -- handle 32, partition 2 and slot 4: 7; an object not in use: 9; of drop, handle 32: 7; a drop of an empty handle and a hold on a used one pass
    case (session (holding 32 0 0 ∷ holding 0 2 0 ∷ holding 0 0 4 ∷ holding 0 0 0 ∷ dropping 32 ∷ dropping 0 ∷ [])).replies
    (done ∷ refused 7 0 ∷ refused 7 0 ∷ refused 7 0 ∷ refused 9 0 ∷ refused 7 0 ∷ done ∷ []) ∷
    case (session (committing three ∷ holding 0 1 0 ∷ holding 0 0 1 ∷ [])).replies (done ∷ done ∷ done ∷ done ∷ []) ∷
    -- why (0,1) is still here: root 0, (0,0), its field 0, (1,0), its field 0, (0,1); later words stay. With a word too few it is 19. Handle 31 on (1,0) is nearer,
    -- and on (0,1) it is the chain; the root comes before it where both name (0,0)
    case (why_of three_objects (named 0 1) (replicate 7 9)) (explained (held_from (FromRoot 0) 2) (1 ∷ 0 ∷ 129 ∷ 0 ∷ 2 ∷ 9 ∷ 9 ∷ [])) ∷
    case (why_of three_objects (named 0 1) (replicate 4 9)) (denied 19 (replicate 4 9)) ∷
    case (why_of (three_holding 129) (named 0 1) (replicate 4 9)) (explained (held_from (FromHandle (handle-of 31)) 1) (129 ∷ 0 ∷ 2 ∷ 9 ∷ [])) ∷
    case (why_of (three_holding 2) (named 0 1) (9 ∷ [])) (explained (held_from (FromHandle (handle-of 31)) 0) (2 ∷ [])) ∷
    case (why_of (three_holding 1) (named 0 0) (9 ∷ [])) (explained (held_from (FromRoot 0) 0) (1 ∷ [])) ∷
    -- no root or handle leads to a cycle: 18; an object not in use: 9; slot 4: 7
    case (why_of (session (garbage ∷ [])).image (named 0 1) (9 ∷ [])) (denied 18 (9 ∷ [])) ∷
    case (why_of three_objects (named 0 2) (9 ∷ [])) (denied 9 (9 ∷ [])) ∷ case (why_of three_objects (named 0 4) (9 ∷ [])) (denied 7 (9 ∷ [])) ∷
    -- a later heading is 5 where its edition exists, else 4, and 3 as the first line
    case (recover_of (headings 1) 125) (refusal 125 5 2) ∷ case (recover_of (headings 2) 125) (refusal 125 5 2) ∷ case (recover_of (headings 3) 125) (refusal 125 5 2) ∷
    case (recover_of (headings 4) 125) (refusal 125 5 2) ∷ case (recover_of (headings 5) 125) (refusal 125 4 2) ∷ case (recover_of (heading_of (rule 5 2 4)) 125) (refusal 125 3 1) ∷
    -- a local line and a hold line within a transaction: 5; else they are good under a heading of each edition, and the handle holds what was logged
    case (recover_of (behind 4 (op_lines (new 0 0 1 ∷ []) ++ record_of (single (Local (partition 0))))) 125) (refusal 125 5 3) ∷
    case (recover_of (behind 4 (op_lines (new 0 1 1 ∷ []) ++ hold_line)) 125) (refusal 125 5 3) ∷
    case (recover_of (paper_log 1 ++ (record_of (single (Local (partition 0))) ++ hold_line)) 125) (recovery 152 (three_holding 2)) ∷
    case (recover_of (paper_log 2 ++ (record_of (single (Local (partition 0))) ++ hold_line)) 125) (recovery 152 (three_holding 2)) ∷
    case (recover_of (paper_log 3 ++ (record_of (single (Local (partition 0))) ++ hold_line)) 125) (recovery 152 (three_holding 2)) ∷
    case (recover_of (paper_log 4 ++ (record_of (single (Local (partition 0))) ++ hold_line)) 125) (recovery 152 (three_holding 2)) ∷
    case (recover_of (paper_log 4 ++ (hold_line ++ record_of (single (Drop (handle-of 31))))) 125) (recovery 152 three_objects) ∷
    -- a tail under a heading of each edition: a whole line without its end, and what a line of 20 bytes begins with, are dropped; a digit more, other text, and
    -- the beginning of a heading are 4
    case (recover_of (behind 1 (print (Single Close))) 125) (recovery 11 (blank 2 4)) ∷
    case (recover_of (behind 3 (take 18 overlong)) 125) (recovery 11 (blank 2 4)) ∷ case (recover_of (behind 3 (take 19 overlong)) 125) (refusal 125 4 2) ∷
    case (recover_of (paper_log 2 ++ replicate 20 120) 125) (refusal 125 4 15) ∷
    case (recover_of (paper_log 4 ++ take 2 (paper_log 4)) 125) (refusal 125 4 15) ∷
    -- a line of 21 bytes, complete and as a tail: it waits and is dropped under edition 4, and is 4 under edition 3
    case (recover_of (behind 4 (longest_line ++ (10 ∷ []))) 125) (recovery 11 (blank 2 4)) ∷ case (recover_of (behind 4 longest_line) 125) (recovery 11 (blank 2 4)) ∷
    case (recover_of (behind 3 (longest_line ++ (10 ∷ []))) 125) (refusal 125 4 2) ∷ case (recover_of (behind 3 longest_line) 125) (refusal 125 4 2) ∷
    -- a heading of 21 bytes is 5 behind one of edition 4 and 4 behind one of edition 2; as the first line it is 3 where its own edition is 1, and where that is 4 it
    -- is 2, with a byte more 3
    case (recover_of (behind 4 (wide 1 123)) 125) (refusal 125 5 2) ∷ case (recover_of (behind 2 (wide 1 123)) 125) (refusal 125 4 2) ∷
    case (recover_of (wide 1 123) 125) (refusal 125 3 1) ∷ case (recover_of (wide 4 123) 125) (refusal 125 2 1) ∷ case (recover_of (wide 4 1234) 125) (refusal 125 3 1) ∷
    -- 65 slots are 2 under edition 3 and pass under edition 4, which has 128; 129 are 2
    case (recover_of (heading_of (rule 3 1 65)) (size 1 65)).verdict (refuse 2 1) ∷ case (recover_of (heading_of (rule 4 1 65)) (size 1 65)).verdict allowed ∷
    case (recover_of (heading_of (rule 4 1 128)) (size 1 128)).verdict allowed ∷ case (recover_of (heading_of (rule 4 1 129)) (size 1 129)).verdict (refuse 2 1) ∷
    -- and the byte of each: none with 5; the digit of an edition that there is not; the digit for which there is no room; other text at once; the byte that only a
    -- heading has there
    case (byte_of (headings 4) (refuse 5 2)) 0 ∷ case (byte_of (headings 5) (refuse 4 2)) 5 ∷ case (byte_of (heading_of (rule 5 2 4)) (refuse 3 1)) 5 ∷
    case (byte_of (behind 3 (take 19 overlong)) (refuse 4 2)) 18 ∷ case (byte_of (paper_log 2 ++ replicate 20 120) (refuse 4 15)) 0 ∷
    case (byte_of (paper_log 4 ++ take 2 (paper_log 4)) (refuse 4 15)) 1 ∷
    -- of a line and a heading that are too long, the first byte for which there is no room
    case (byte_of (behind 3 (longest_line ++ (10 ∷ []))) (refuse 4 2)) 20 ∷ case (byte_of (behind 3 longest_line) (refuse 4 2)) 20 ∷
    case (byte_of (behind 2 (wide 1 123)) (refuse 4 2)) 20 ∷ case (byte_of (wide 1 123) (refuse 3 1)) 20 ∷ case (byte_of (wide 4 1234) (refuse 3 1)) 21 ∷
    -- the paper's log cut at 10 bytes is a heading without its end: all of it; with a byte altered it is that one
    case (byte_of (take 10 (paper_log 1)) (refuse 3 1)) 10 ∷ case (byte_of (take 10 (paper_log 2)) (refuse 3 1)) 10 ∷ case (byte_of (take 10 (paper_log 3)) (refuse 3 1)) 10 ∷
    case (byte_of (take 10 (paper_log 4)) (refuse 3 1)) 10 ∷
    case (recover_of altered 125) (refusal 125 4 5) ∷ case (byte_of altered (refuse 4 5)) 5 ∷
    [])
unfolding reading printing logging imaging looping acting judging recovering sounding listing performing explaining
own_table =
    (refl, (refl, (refl, (refl, (refl, (refl, (refl, (refl, (refl, (refl, (refl, (refl, (refl, (refl, (refl, (refl, (refl, (refl, (refl, (refl, (refl, (refl, (refl, (refl, (refl, (refl, (refl, (refl, (refl, (refl, (refl, (refl, (refl, (refl, (refl, (refl, (refl, (refl, (refl, (refl, (refl, (refl, (refl, (refl, (refl, (refl, (refl, (refl, (refl, (refl, (refl, (refl, (refl, (refl, (refl, (refl, (refl, (refl, (refl, (refl, (refl, (refl, (refl, (refl, (refl, (refl, tt))))))))))))))))))))))))))))))))))))))))))))))))))))))))))))))))))

-- a session of a table goes on with calls that are accepted, and that retain what a handle holds
abbrev accepted : Session → List Call → Bool
accepted s [] = true
accepted s (c ∷ cs) = both (eqb (calling s.image c s.log s.end).number 0) (accepted (next s c) cs)

abbrev Retaining : Handle → Name → List Call → Type 0
Retaining h n [] = Unit {0}
Retaining h n (c ∷ cs) = Retains h n (act_of c) × Retaining h n cs

passes : {h : Handle} {n : Name} {x : Image} {acts : List Act} (s : Session) (cs : List Call) → HeldSince h n x acts s.image → Retaining h n cs → accepted s cs ≡ true
    → (since : List Act) × HeldSince h n x since (continued s cs).image
passes s [] r p e = (_, r)
passes s (c ∷ cs) r p e =
    let b = both_true (eqb (calling s.image c s.log s.end).number 0) (accepted (next s c) cs) e in
    passes (next s c) cs (called r c p.0 s.log s.end (eqb-true _ 0 b.0)) p.1 b.1

-- WHAT THE PROMISE ON SESSIONS SUPPOSES IS MET: the session that holds (1,0) goes on, its root expired, through a phase and local collections
pub browsed : (since : List Act) × HeldSince (handle-of 31) (named 1 0) (session (take 1 browsing)).image since (session (browsing ++ collecting)).image
unfolding printing logging imaging looping acting judging sounding performing
browsed =
    let s : Session = session (take 1 browsing) in
    passes (next s (holding 31 1 0)) (committing (unroot 1 ∷ []) ∷ collecting) (held s.log s.end refl) (tt, (tt, (tt, (tt, (tt, (tt, (tt, (tt, tt)))))))) refl
