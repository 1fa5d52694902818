-- The questions: no extra answer, and fields whose words fit, from which the record is read back.
-- Assumes nothing.
use Prim.Native.Nat.{ℕ, zero, suc, ◌*◌, ◌-◌, ◌/◌, ◌%◌, ◌<◌}
use mathlib.Core.Path.{◌≡◌, refl, sym, ap, ◌∙◌}
use mathlib.Core.Bool.{Bool, true, false, cond}
use mathlib.Core.List.{List, [], ◌∷◌, map}
use native.Mathlib.Omega.{arith}
use lib.Dec.{eqb}
use lib.ListN.{get_or}
use borrow.Author.Tests.{eqb-false}
use Rattle.kinds.specs.Names.{radix, named, Named, target_of, word_of}
use Rattle.kinds.specs.Answers.{blank_field}
use Rattle.kinds.specs.declared.Name.{Name}
use Rattle.kinds.specs.declared.Field.{Field}
use Rattle.kinds.specs.declared.Partition.{Partition}
use Rattle.kinds.specs.declared.Record.{Record}
use Rattle.kinds.specs.declared.Refusal.{Refusal}
use Rattle.kinds.specs.Answers.{Reason}
use Rattle.std.specs.Prelude.{None, Some}
use Rattle.kinds.specs.Answers.{Verdict}
use Rattle.std.specs.Prelude.{Result, Ok, Err}
use Rattle.kinds.proofs.Names.{word_target}
use Rattle.model.specs.Image.{Image, Key, payload, field, partitions, slots, get, place, Holder, a_field}
use Rattle.model.specs.Judge.{check, judge_name, judge_outlist}
use Rattle.model.specs.Questions.{read_of}
use Rattle.model.specs.Sound.{Sound, NamesUsed}
use Rattle.model.proofs.Soundness.{sound_true}
use Rattle.holding.specs.Finding.{Explained, explained, held_of}
use Rattle.holding.proofs.Answers.{held_so}
use Rattle.catalogue.specs.Answers.{Asked, Listing, Reading}
use Rattle.catalogue.specs.Answers.{Said, said_reading, said_asked, said_listing, Chained, said_reason}
use Rattle.catalogue.specs.Call.{judge_object, judge_foreign, answered, reading_of, asked_of, listing_of, reasoned, why_of}
use Rattle.catalogue.proofs.Judged.{object_sound, object_in}
use Rattle.heidrunok.specs.Face.{told, seen_words, field_of, record_of}
use Rattle.heidrunok.proofs.Faces.{told_plain}

-- no question has an extra answer
abbrev extra_of : Verdict → ℕ
extra_of (Ok _) = 0
extra_of (Err r) = r.extra

check_plain : (b : Bool) (n : ℕ) (v : Verdict) → extra_of v ≡ 0 → extra_of (check b n 0 v) ≡ 0
unfolding check
check_plain true n v e = e
check_plain false n v e = refl

object_plain : (img : Image) (n : Name) → extra_of (judge_object img n) ≡ 0
unfolding judge_object judge_name
object_plain img n = check_plain _ 1 _ (check_plain _ 7 _ (check_plain _ 9 _ refl))

foreign_plain : (img : Image) (p : Partition) → extra_of (judge_foreign img p) ≡ 0
unfolding judge_foreign judge_outlist
foreign_plain img p = check_plain _ 1 _ (check_plain _ 7 _ refl)

-- a question, from the answer that the code has in hand
module _ {A : Type 0} (say : Result A Refusal → Said A) (plain : (a : A) → (say (Ok a)).extra ≡ 0) (given : (r : Refusal) → (say (Err r)).extra ≡ r.extra) where
  answered_plain : (v : Verdict) (a : A) → extra_of v ≡ 0 → (say (answered v a)).extra ≡ 0
  answered_plain (Ok _) a e = plain a
  answered_plain (Err r) a e = given r ∙ e

  pub question_told : (v : Verdict) (a : A) (b o : Result A Refusal) → extra_of v ≡ 0 → o ≡ answered v a → b ≡ o → told (say b).number 0 (say b).value ≡ say o
  question_told v a b o e q f =
      ap (λ (x : Result A Refusal). told (say x).number 0 (say x).value) f
      ∙ told_plain (say o) (ap (λ (x : Result A Refusal). (say x).extra) q ∙ answered_plain v a e)

pub ask_told : (img : Image) (m n : Name) (b : Asked) → b ≡ asked_of img m → m ≡ n → told (said_asked b).number 0 (said_asked b).value ≡ said_asked (asked_of img n)
unfolding asked_of
ask_told img m n b e f = question_told said_asked (λ a. refl) (λ r. refl) (judge_object img n) _ b _ (object_plain img n) refl (e ∙ ap (asked_of img) f)

pub listing_told : (img : Image) (p : Partition) (b : Listing) → b ≡ listing_of img p → told (said_listing b).number 0 (said_listing b).value ≡ said_listing (listing_of img p)
unfolding listing_of
listing_told img p b e = question_told said_listing (λ a. refl) (λ r. refl) (judge_foreign img p) _ b _ (foreign_plain img p) refl e

why_plain : (img : Image) (n : Name) (words : List ℕ) → (said_reason (why_of img n words).answer).extra ≡ 0
unfolding why_of
why_plain img n words = go (judge_object img n) (object_plain img n)
  where
    go : (v : Verdict) → extra_of v ≡ 0 → (said_reason (reasoned v (held_of (get img partitions * get img slots) (get img slots) img (place (get img slots) n) words) words).answer).extra ≡ 0
    go (Ok _) e = held_so _ _ img _ words (λ o. (said_reason o.answer).extra ≡ 0) refl refl (λ c. refl)
    go (Err r) e = e

-- why, from the answer that the code has in hand
pub why_told : (img : Image) (m n : Name) (words ws : List ℕ) (a b : Reason) → explained a ws ≡ why_of img m words → m ≡ n → a ≡ b
    → explained (told (said_reason b).number 0 (said_reason b).value) ws ≡ seen_words said_reason (why_of img n words)
why_told img m n words ws a b e f g =
    ap plain (ap (λ (x : Reason). explained x ws) (sym g) ∙ e ∙ ap (λ (k : Name). why_of img k words) f)
    ∙ ap (λ (s : Said Chained). explained s (why_of img n words).words) (told_plain (said_reason (why_of img n words).answer) (why_plain img n words))
  where
    plain : Explained Reason → Explained (Said Chained)
    plain o = explained (told (said_reason o.answer).number 0 (said_reason o.answer).value) o.words

-- a reference of a sound image names a slot within the limits
target_named : (x : Image) (κ : Key) → Sound x → Holder (get x partitions * get x slots) κ → Named (target_of (get x κ))
unfolding target_of
target_named x κ s h = go (eqb (get x κ) 0) refl
  where
    go : (b : Bool) → eqb (get x κ) 0 ≡ b → Named (cond b None (Some (named ((get x κ - 1) / radix) ((get x κ - 1) % radix))))
    go true e = tt
    go false e =
        let u : NamesUsed (get x partitions) (get x slots) x κ = s.references κ h (eqb-false _ _ e) in
        (omega (arith, u.partition, s.limits.partitions_most), omega (arith, u.slot, s.limits.slots_most))

abbrev AllNamed : List Field → Type 0
AllNamed [] = Unit {0}
AllNamed (f ∷ fs) = Named f.target × AllNamed fs

reading_named : (img : Image) (n : Name) (o : Record) → Ok o ≡ reading_of img n → AllNamed o.fields
unfolding reading_of read_of
reading_named img n o q = go (judge_object img n) refl q
  where
    go : (v : Verdict) → judge_object img n ≡ v → ◌≡◌ {A = Reading} (Ok o) (answered v (read_of img (place (get img slots) n))) → AllNamed o.fields
    go (Ok _) e q =
        let s : Sound img = sound_true img (object_sound img n e) in
        let l = object_in img n e in
        let h : (k : ℕ) → k < 4 → Named (target_of (get img (field (place (get img slots) n) k))) = λ k m. target_named img _ s (a_field l m) in
        let z : o ≡ read_of img (place (get img slots) n) = cc in
        rw z (h 0 (omega arith), (h 1 (omega arith), (h 2 (omega arith), (h 3 (omega arith), tt))))
    go (Err r) e q = absurd (let z : ◌≡◌ {A = ℕ} 0 1 = cc in omega arith)

named_at : (fs : List Field) (k : ℕ) → AllNamed fs → Named (get_or fs k blank_field).target
named_at [] k h = tt
named_at (f ∷ fs) zero h = h.0
named_at (f ∷ fs) (suc k) h = named_at fs k h.1

pub field_named : (img : Image) (n : Name) (o : Record) (k : ℕ) → Ok o ≡ reading_of img n → Named (get_or o.fields k blank_field).target
field_named img n o k e = named_at o.fields k (reading_named img n o e)

-- the record is read back from its words
abbrev word_at : Record → ℕ → ℕ
word_at o k = word_of (get_or o.fields k blank_field).target

abbrev words_of : Record → List ℕ
words_of o = word_at o 0 ∷ word_at o 1 ∷ word_at o 2 ∷ word_at o 3 ∷ []

word_back : (w : ℕ) → word_of (target_of w) ≡ w
unfolding word_of target_of
word_back w = word_target radix w

record_back : (img : Image) (j : ℕ) → let o = read_of img j in record_of o.payload (words_of o) ≡ o
unfolding read_of word_of target_of
record_back img j =
    λ i. record_of (get img (payload j))
    (word_back (get img (field j 0)) i ∷ word_back (get img (field j 1)) i ∷ word_back (get img (field j 2)) i ∷ word_back (get img (field j 3)) i ∷ [])

-- read, from the parts that the code has in hand
pub read_told : (img : Image) (m n : Name) (o : Record) (a b c d : ℕ) → Ok o ≡ reading_of img m → m ≡ n
    → a ≡ word_at o 0 → b ≡ word_at o 1 → c ≡ word_at o 2 → d ≡ word_at o 3 → told 0 0 (record_of o.payload (a ∷ b ∷ c ∷ d ∷ [])) ≡ said_reading (reading_of img n)
unfolding reading_of
read_told img m n o a b c d e f s t u w = rw (s, t, u, w) (go (judge_object img n) (e ∙ ap (reading_of img) f))
  where
    go : (v : Verdict) → ◌≡◌ {A = Reading} (Ok o) (answered v (read_of img (place (get img slots) n)))
        → told 0 0 (record_of o.payload (words_of o)) ≡ said_reading (answered v (read_of img (place (get img slots) n)))
    go (Ok _) q = let z : o ≡ read_of img (place (get img slots) n) = cc in rw z (ap (told 0 0) (record_back img _))
    go (Err r) q = absurd (let z : ◌≡◌ {A = ℕ} 0 1 = cc in omega arith)

-- a refused one says zeros
pub read_refused : (img : Image) (m n : Name) (r : Refusal) → Err r ≡ reading_of img m → m ≡ n → told r.number 0 (record_of 0 (0 ∷ 0 ∷ 0 ∷ 0 ∷ [])) ≡ said_reading (reading_of img n)
unfolding reading_of target_of
read_refused img m n r e f =
    question_told said_reading (λ a. refl) (λ r. refl) (judge_object img n) _ (Err r) _ (object_plain img n) refl (e ∙ ap (reading_of img) f)

-- one payload and one list of words for a record
words_back : (ws : List ℕ) → map (λ (f : Field). word_of f.target) (map field_of ws) ≡ ws
words_back [] = refl
words_back (w ∷ ws) = rw (word_back w, words_back ws)

pub record_once : (v w : ℕ) (ws zs : List ℕ) → record_of v ws ≡ record_of w zs → (v ≡ w) × (ws ≡ zs)
record_once v w ws zs e =
    (ap (λ (o : Record). o.payload) e, sym (words_back ws) ∙ ap (λ (o : Record). map (λ (f : Field). word_of f.target) o.fields) e ∙ words_back zs)
