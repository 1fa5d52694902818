-- Demand 2 over calls: a book's bytes are the log of its history, each act of it accepted where it stands, and the image is what the history leaves; its
-- bytes cut at any byte after the heading and recovered give the replay of the longest part of the history whose records are whole within the cut, in every
-- word, with the end of that part as kept length. What is so recovered is a book again, so that carrying on stays within the statement.
-- Assumes nothing.
use Prim.Native.Nat.{ℕ, ◌+◌, ◌≤◌}
use native.Mathlib.Omega.{arith}
use mathlib.Core.Path.{◌≡◌, sym, ap, ◌∙◌, subst}
use mathlib.Core.List.{List, [], ◌∷◌, ◌++◌, append_assoc}
use lib.ListN.{length, take, drop, replicate, length-append, length-replicate}
use lib.Seq.{length-take-le, take-take, take-add, take_at, drop_at}
use Rattle.kinds.specs.Answers.{allowed}
use Rattle.model.specs.Image.{Image, length_of, size}
use Rattle.model.specs.Acts.{Act}
use Rattle.lines.specs.Print.{Bytes}
use Rattle.writer.specs.Record.{Rule, newest, record_of, heading_of}
use Rattle.writer.specs.Write.{splice}
use Rattle.journal.specs.Log.{log_of, replay, whole, Kept, LooksTorn}
use Rattle.journal.specs.Recover.{Recovered, recovery, recover_of}
use Rattle.journal.proofs.AnyBytes.{any_bytes}
use Rattle.journal.proofs.Carrying.{whole_part, kept_bytes}
use Rattle.journal.proofs.Demand.{kept_is, cut_says, demand_2}
use Rattle.journal.proofs.Torn.{honest_torn}
use Rattle.promises.specs.Calls.{Call, act_of, formatting, calling}
use Rattle.promises.specs.World.{World, logged, lent, recovered, formatted as world-formatted, called as world-called, refused as world-refused, unformatted as world-unformatted}
use Rattle.promises.specs.Book.{bytes_at, Book, formatted, adopted, called, refused, unformatted, moved, LogAt, Keeps}
use Rattle.promises.proofs.Calling.{call_accepted, refused_leaves, format_accepted, refused_format_leaves}
use Rattle.promises.proofs.Reached.{reached}

-- bytes written behind the n bytes from a place on
bytes_behind : (log : List ℕ) (from n : ℕ) (bytes : List ℕ) → from + n + length bytes ≤ length log
    → bytes_at from (n + length bytes) (splice log (from + n) bytes) ≡ bytes_at from n log ++ bytes
unfolding splice
bytes_behind log from n bytes l =
    let rest : List ℕ = drop (from + n + length bytes) log in
    let part : List ℕ = bytes_at from n log in
    let a : length (take from log) ≡ from = length-take-le from log (omega arith) in
    let w : length (take from log) + length part ≡ from + n = sym (length-append (take from log) part) ∙ ap length (sym (take-add from n log)) ∙ length-take-le (from + n) log (omega arith) in
    let b : length part ≡ n = omega arith in
    ap (λ (zs : List ℕ). bytes_at from (n + length bytes) (zs ++ (bytes ++ rest))) (take-add from n log)
    ∙ ap (bytes_at from (n + length bytes)) (append_assoc (take from log) part (bytes ++ rest))
    ∙ ap (take (n + length bytes)) (drop_at (take from log) (part ++ (bytes ++ rest)) from a)
    ∙ ap (take (n + length bytes)) (sym (append_assoc part bytes rest))
    ∙ take_at (part ++ bytes) rest (n + length bytes) (length-append part bytes ∙ ap (λ (m : ℕ). m + length bytes) b)

-- A BOOK'S CALLS ARE THOSE OF A WORLD, so that all that holds of a reached heap holds of its image, demand 3 too
pub book_world : {h : Rule} {acts : List Act} {img : Image} {from n : ℕ} {log : List ℕ} → Book h acts img from n log → (w : Image) × World w (logged h) acts img
unfolding length_of
book_world (formatted img P S log from z) = (img, world-formatted lent P S log from z)
book_world (adopted {h = h} {acts = acts} log len k) =
    let w : Image = replicate len 0 in
    let e : length w ≡ len = length-replicate len 0 in
    (w, subst (λ (m : ℕ). World w (logged h) acts (recover_of log m).image) e (recovered lent log h acts (subst (λ (m : ℕ). Kept log m h acts) (sym e) k)))
book_world (called {from = from} {n = n} {log = log} b c w z) = let s = book_world b in (s.0, world-called s.1 c w log (from + n) z)
book_world (refused {log = log} b c at ne) = let s = book_world b in (s.0, world-refused s.1 c log at ne)
book_world (unformatted {log = log} b P S at ne) = let s = book_world b in (s.0, world-unformatted s.1 P S log at ne)
book_world (moved b other to e) = book_world b

-- its bytes are the log of its history
heading_written : (img : Image) (P S : ℕ) (log : List ℕ) (from : ℕ) → (formatting img P S log from).number ≡ 0
    → LogAt (newest P S) [] from (formatting img P S log from).length (formatting img P S log from).log
unfolding log_of
heading_written img P S log from z =
    let m = format_accepted img P S log from z in
    let xs : List ℕ = heading_of (newest P S) in
    let e : from + 0 ≡ from = omega arith in
    let n : 0 + length xs ≡ length xs = omega arith in
    let room : from + 0 + length xs ≤ length log = omega (arith, m.room) in
    let b : bytes_at from (length xs) (splice log from xs) ≡ xs = rw (e, n) at (bytes_behind log from 0 xs room) in
    record { bytes = rw (m.length_is, m.log_is) b; ends = m.length_is }

record_written : {h : Rule} {acts : List Act} (img : Image) {from n : ℕ} {log : List ℕ} → LogAt h acts from n log → (c : Call) → (calling img c log (from + n)).number ≡ 0
    → LogAt h (act_of c ∷ acts) from (n + (calling img c log (from + n)).length) (calling img c log (from + n)).log
unfolding log_of
record_written {h} {acts} img {from} {n} {log} k c z =
    let m = call_accepted img c log (from + n) z in
    let a : Act = act_of c in
    record {
      bytes = rw (m.length_is, m.log_is) (bytes_behind log from n (record_of a) m.room ∙ ap (λ (zs : List ℕ). zs ++ record_of a) k.bytes);
      ends = rw (m.length_is, length-append (log_of h acts) (record_of a)) (ap (λ (i : ℕ). i + length (record_of a)) k.ends);
    }

log_at : {h : Rule} {acts : List Act} {img : Image} {from n : ℕ} {log : List ℕ} → Book h acts img from n log → LogAt h acts from n log
log_at (formatted img P S log from z) = heading_written img P S log from z
log_at (adopted log len k) = record { bytes = kept_bytes k; ends = ap (λ (r : Recovered). r.kept) (kept_is k) }
log_at (called {img = img} b c w z) = record_written img (log_at b) c z
log_at (refused {img = img} {log = log} b c at ne) = rw (refused_leaves img c log at ne).log_is (log_at b)
log_at (unformatted {img = img} {log = log} b P S at ne) = rw (refused_format_leaves img P S log at ne).log_is (log_at b)
log_at (moved b other to e) = let k = log_at b in record { bytes = e ∙ k.bytes; ends = k.ends }

-- A BOOK IS KEPT OF A HISTORY
pub book_keeps : {h : Rule} {acts : List Act} {img : Image} {from n : ℕ} {log : List ℕ} → Book h acts img from n log → Keeps h acts img from n log
book_keeps b = record { replayed = reached (book_world b).1; log_at = log_at b }

-- every accepted recovery of any bytes begins a book
pub book_begins : (log : List ℕ) (len : ℕ) → Bytes log → (recover_of log len).verdict ≡ allowed → (h : Rule) × (acts : List Act) × Book h acts (recover_of log len).image 0 (recover_of log len).kept log
book_begins log len b e = let a = any_bytes log len b e in (a.rule, a.acts, adopted log len a.kept)

module _ {h : Rule} {acts : List Act} {img : Image} {from n : ℕ} {log : List ℕ} (book : Book h acts img from n log) (k : ℕ) (lo : length (heading_of h) ≤ k) (hi : k ≤ n) where
  keeps : Keeps h acts img from n log
  keeps = book_keeps book

  cut : bytes_at from k log ≡ take k (log_of h acts)
  cut = sym (take-take k n (drop from log) hi) ∙ ap (take k) keeps.log_at.bytes

  -- DEMAND 2
  pub demand_2_calls : recover_of (bytes_at from k log) (size h.P h.S) ≡ recovery (length (log_of h (whole h acts k))) (replay h (whole h acts k))
  demand_2_calls = rw cut (demand_2 h acts keeps.replayed.history k lo)

  -- what a cut leaves looks torn
  pub book_torn : LooksTorn (bytes_at from k log)
  book_torn = rw cut (honest_torn h acts keeps.replayed.history k lo)

  -- and the book goes on from there, in its own log buffer
  pub book_cut : Book h (whole h acts k) (replay h (whole h acts k)) from (length (log_of h (whole h acts k))) log
  book_cut = moved recovered log from same
    where
      w : List Act
      w = whole h acts k

      recovered : Book h w (replay h w) 0 (length (log_of h w)) (take k (log_of h acts))
      recovered =
          let s = cut_says h acts keeps.replayed.history k lo in
          subst (λ (r : Recovered). Book h w r.image 0 r.kept (take k (log_of h acts))) (kept_is s) (adopted (take k (log_of h acts)) (size h.P h.S) s)

      same : bytes_at from (length (log_of h w)) log ≡ take (length (log_of h w)) (take k (log_of h acts))
      same = sym (take-take (length (log_of h w)) k (drop from log) (whole_part h acts k lo).fits) ∙ ap (take (length (log_of h w))) cut
