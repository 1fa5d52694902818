-- No report is longer than the room that it is lent; and the ends of the call, each from what the code has there.
-- Assumes nothing.
use Prim.Native.Nat.{ℕ, ◌+◌, ◌-◌, ◌*◌, ◌≤◌, ◌<◌}
use native.Mathlib.Omega.{arith}
use mathlib.Core.Path.{◌≡◌, sym, ap, ◌∙◌}
use mathlib.Core.Bool.{Bool, true, false, cond}
use mathlib.Core.List.{List, [], ◌∷◌, ◌++◌}
use lib.Dec.{ltb, leb}
use lib.ListN.{length, take, drop, length-append}
use lib.Seq.{sets-eq, length-take-le}
use borrow.Author.Tests.{lt-ltb, le-ltb, le-leb, lt-leb}
use Rattle.kinds.specs.Editions.{longest}
use Rattle.kinds.specs.Names.{most_partitions, most_slots}
use Rattle.kinds.specs.Answers.{Verdict}
use Rattle.model.specs.Image.{Image, phase, get, size}
use Rattle.journal.proofs.Locating.{byte_most}
use Rattle.journal.specs.Recover.{Recovered, recover_of, byte_of}
use Rattle.journal.proofs.AnyBytes.{any_bytes, refused_so}
use Rattle.journal.proofs.Salvaging.{kept_within, refused_within}
use Rattle.lines.proofs.Firsts.{announced_longest}
use Rattle.lines.specs.Cursor.{body, after, limit_of}
use Rattle.lines.specs.Print.{Put, Bytes}
use Rattle.writer.specs.Write.{Wrote, wrote, splice}
use Rattle.std.specs.Prelude.{Option, None, Some, IfSome, Ok, Err}
use Rattle.recovery.specs.declared.Fault.{Fault}
use Rattle.recovery.specs.Answers.{out, byte_in, Recovery}
use Rattle.reporting.specs.declared.asked.Asked.{Asked}
use Rattle.reporting.specs.Report.{most_bytes, most_words, room, answer_word, line_word, byte_word, kept_word, phase_word, toolong_word, row, objects, refused_text, kept_text, told, shown, asked_of, words_of, shown_for, recovered_text, report_of, reported}
use Rattle.reporting.proofs.Headings.{Bounded, log_bounded, asked_bounded}
use Rattle.reporting.proofs.Texts.{row_length, objects_length, places_most}

refused_length : (n l b : ℕ) → length (refused_text n l b) ≤ room
unfolding refused_text
refused_length n l b =
    let x = row line_word (l ∷ []) in
    let y = row byte_word (b ∷ []) in
    omega (arith, row_length answer_word n, row_length line_word l, row_length byte_word b, length-append (row answer_word (n ∷ [])) (x ++ y), length-append x y)

kept_length : (P S k : ℕ) (y : Image) → P ≤ most_partitions → S ≤ most_slots → length (kept_text P S k y) ≤ room
unfolding kept_text
kept_length P S k y hp hs =
    let m = places_most P S hp hs in
    let a = row answer_word (0 ∷ []) in
    let b = row kept_word (k ∷ []) in
    let c = row phase_word (get y phase ∷ []) in
    let d = objects S y (P * S) in
    omega (arith, m.1, objects_length S (P * S) y hs m.0, row_length answer_word 0, row_length kept_word k, row_length phase_word (get y phase), length-append a (b ++ (c ++ d)), length-append b (c ++ d), length-append c d)

shown_length : (P S : ℕ) (log : List ℕ) (r : Recovered) → P ≤ most_partitions → S ≤ most_slots → length (shown P S log r) ≤ room
unfolding shown
shown_length P S log r hp hs = by r.verdict
  where
    by : (v : Verdict) → length (told P S v (byte_of log v) r.kept r.image) ≤ room
    by (Ok _) = kept_length P S r.kept r.image hp hs
    by (Err q) = refused_length q.number q.extra (byte_of log (Err q))

-- what is said of a log where it asks for so much
abbrev recovered_for : List ℕ → Option Asked → List ℕ
recovered_for log o = shown_for o log (recover_of log (words_of o))

recovered_length : (log : List ℕ) → length (recovered_text log) ≤ room
unfolding recovered_text
recovered_length log = by (asked_of log) (log_bounded log)
  where
    by : (o : Option Asked) → IfSome o Bounded → length (recovered_for log o) ≤ room
    by None b = shown_length 0 0 log (recover_of log (words_of None)) (omega arith) (omega arith)
    by (Some a) b = shown_length a.partitions a.slots log (recover_of log (words_of (Some a))) b.few b.narrow

-- NO REPORT has more than 65,536 bytes
pub report_length : (log : List ℕ) → length (report_of log) ≤ room
unfolding report_of row
report_length log = by (ltb most_bytes (length log))
  where
    by : (b : Bool) → length (cond b (row toolong_word []) (recovered_text log)) ≤ room
    by true = omega arith
    by false = recovered_length log

-- the report of a log that is too long, and of one that is not
pub report_long : (log : List ℕ) → most_bytes < length log → row toolong_word [] ≡ report_of log
unfolding report_of
report_long log h = rw (lt-ltb most_bytes (length log) h)

report_short : (log : List ℕ) → length log ≤ most_bytes → recovered_text log ≡ report_of log
unfolding report_of
report_short log h = rw (le-ltb most_bytes (length log) h)

-- the two ends of the call
pub reported_full : (log out : List ℕ) → length out < room → wrote None out ≡ reported log out
unfolding reported
reported_full log out h = rw (lt-leb room (length out) h)

pub reported_done : (log out after : List ℕ) (r : ℕ) → room ≤ length out → Put out after 0 (report_of log) r → wrote (Some r) after ≡ reported log out
unfolding reported splice
reported_done log out after r h p =
    let e : after ≡ take 0 out ++ (report_of log ++ drop (0 + length (report_of log)) out) = p.bytes ∙ sets-eq (report_of log) out 0 (omega (arith, report_length log)) in
    let n : r ≡ length (report_of log) = omega (arith, p.next) in
    rw (le-leb room (length out) h, e, n)

-- what recovery's code answers: a kept length with its image, or a refusal with its byte
module _ (log : List ℕ) (len : ℕ) (r : Recovery) (y : Image) (e : out r y ≡ recover_of log len) where
  answered : (s : Recovery) → r ≡ s → out s y ≡ recover_of log len
  answered s q = ap (λ (t : Recovery). out t y) (sym q) ∙ e

  -- the kept length is within the log, and there is an image; a refusal's line is at most one more than there are bytes
  module _ (b : Bytes log) where
    pub kept_small : {k : ℕ} → r ≡ Ok k → k ≤ length log
    kept_small {k} q = omega (arith, ap (λ (z : Recovered). z.kept) (answered (Ok k) q), kept_within log len b)

    pub kept_some : {k : ℕ} → r ≡ Ok k → 0 < len
    unfolding size
    kept_some {k} q = omega (arith, (any_bytes log len b (sym (ap (λ (z : Recovered). z.verdict) (answered (Ok k) q)))).kept.before.fits)

    pub line_small : {f : Fault} → r ≡ Err f → f.refusal.extra ≤ length log + 1
    line_small {f} q = refused_within (refused_so log len b f.refusal.number f.refusal.extra (sym (ap (λ (z : Recovered). z.verdict) (answered (Err f) q))))

  pub kept_shown : (P S k : ℕ) → r ≡ Ok k → kept_text P S k y ≡ shown P S log (recover_of log len)
  unfolding shown
  kept_shown P S k q = ap (shown P S log) (answered (Ok k) q)

  module _ (f : Fault) (q : r ≡ Err f) (g : byte_in r ≡ byte_of log (recover_of log len).verdict) where
    byte_answered : f.byte ≡ byte_of log (Err f.refusal)
    byte_answered = ap byte_in (sym q) ∙ g ∙ ap (λ (z : Recovered). byte_of log z.verdict) (sym (answered (Err f) q))

    pub byte_small : f.byte ≤ longest
    byte_small = omega (arith, byte_answered, byte_most (limit_of log) f.refusal.number (after (f.refusal.extra - 1) log), announced_longest (body log))

    pub refused_shown : (P S : ℕ) → refused_text f.refusal.number f.refusal.extra f.byte ≡ shown P S log (recover_of log len)
    unfolding shown
    refused_shown P S = ap (refused_text f.refusal.number f.refusal.extra) byte_answered ∙ ap (shown P S log) (answered (Err f) q)

-- nothing is lent
pub none_report : (log : List ℕ) → None ≡ asked_of log → length log ≤ most_bytes → shown 0 0 log (recover_of log 0) ≡ report_of log
unfolding recovered_text
none_report log e h = ap (recovered_for log) e ∙ report_short log h

-- the part of the largest image that is lent
module _ (log : List ℕ) {a : Asked} (e : Some a ≡ asked_of log) (img : List ℕ) (l : length img ≡ most_words) where
  bounds : Bounded a
  bounds = asked_bounded log e

  pub words_fit : a.words ≤ length img
  words_fit = omega (arith, bounds.most)

  pub words_lent : length (take a.words img) ≡ a.words
  words_lent = length-take-le a.words img words_fit

  pub lent_whole : (a.partitions ≤ most_partitions) × (a.slots ≤ most_slots) × (0 < length (take a.words img) → length (take a.words img) ≡ size a.partitions a.slots)
  lent_whole = (bounds.few, bounds.narrow, λ h. words_lent ∙ bounds.whole)

  pub lent_report : length log ≤ most_bytes → shown a.partitions a.slots log (recover_of log (length (take a.words img))) ≡ report_of log
  unfolding recovered_text
  lent_report h = rw words_lent (ap (recovered_for log) e ∙ report_short log h)

-- what the call says it wrote is at most the room
abbrev length_of : Option ℕ → ℕ
length_of (Some k) = k
length_of None = 0

reported_length : (log out : List ℕ) → length_of (reported log out).answer ≤ room
unfolding reported
reported_length log out = by (leb room (length out))
  where
    by : (b : Bool) → length_of (cond b (wrote (Some (length (report_of log))) (splice out 0 (report_of log))) (wrote None out)).answer ≤ room
    by true = report_length log
    by false = omega arith

pub done_fits : (log out after : List ℕ) (a : Option ℕ) (k : ℕ) → wrote a after ≡ reported log out → a ≡ Some k → k ≤ room
done_fits log out after a k e d =
    let h : k ≡ length_of (reported log out).answer = ap length_of (sym d) ∙ ap (λ (w : Wrote). length_of w.answer) e in
    omega (arith, reported_length log out)
