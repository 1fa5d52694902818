-- What why answers: of an object in use the foremost chain that holds it, spelled in the lent words, and nothing else; 18 exactly where ask says no; a refusal
-- leaves the words as found, and an accepted answer those from 2k + 1 on.
-- Assumes nothing.
use Prim.Native.Nat.{ℕ, ◌+◌, ◌*◌, ◌-◌, ◌≤◌, ◌<◌}
use mathlib.Core.Path.{◌≡◌, refl, sym, ap, ◌∙◌, subst}
use mathlib.Core.Bool.{Bool, true, false, cond}
use mathlib.Core.List.{List, [], ◌∷◌, ◌++◌, map}
use mathlib.Core.Logic.{◌≢◌}
use native.Mathlib.Omega.{arith}
use lib.Arith.{digits_div, digits_mod}
use lib.Dec.{ltb}
use lib.ListN.{length, get_or, drop, length-append, length-drop}
use lib.Seq.{get_or-append-add, get_or-drop}
use borrow.Author.Tests.{ltb-true, ltb-false}
use Rattle.kinds.specs.Names.{roots, word_of, session}
use Rattle.kinds.specs.declared.Name.{Name}
use Rattle.std.specs.Prelude.{Some}
use Rattle.kinds.specs.declared.Held.{Held}
use Rattle.kinds.specs.declared.Start.{Start}
use Rattle.kinds.specs.declared.Start.TheVariants.{Root, Handle}
use Rattle.kinds.specs.Answers.{Reason}
use Rattle.kinds.specs.Answers.{held_from}
use Rattle.kinds.specs.declared.Refusal.{Refusal}
use Rattle.kinds.specs.Answers.{Verdict}
use Rattle.std.specs.Prelude.{Ok, Err}
use Rattle.model.specs.Image.{Image, Key, anchor, field, partitions, slots, anchors, get, place, place_of, Holder, an_anchor, a_field}
use Rattle.model.specs.Chains.{Names, Anchored}
use Rattle.model.proofs.Numbers.{Among, numbered, check_among, among_wider, name_among}
use Rattle.holding.specs.Holding.{Chain, Follows, Upto, Holds, Foremost, last, on, ended, less, same}
use Rattle.model.specs.Outlist.{name_at}
use Rattle.model.proofs.Naming.{name_rises}
use Rattle.model.proofs.Outlists.{name_word}
use Rattle.holding.specs.Finding.{turns, words_of, start_of, Explained, explained, held_of}
use Rattle.holding.proofs.Order.{follows_length, foremost_once}
use Rattle.holding.proofs.Found.{foremost_short, found_foremost, found_so, holds_leads}
use Rattle.holding.proofs.Words.{words_length, place_name}
use Rattle.holding.proofs.Answers.{by_cases, held_cases}
use Rattle.catalogue.specs.Answers.{said_reason}
use Rattle.catalogue.specs.Call.{judge_object, asked_of, reasoned, why_of}
use Rattle.catalogue.proofs.Leaving.{told_number}
use Rattle.promises.specs.Effects.{Exactly, Present}
use Rattle.promises.specs.Why.{Explains, unheld, narrow, held, StartIn, start_key, Spelled, Spells, last as ends, on as goes}
use Rattle.promises.proofs.Effects.{judged_present, present_judged, present_refs, ask_no}

-- NOTHING ELSE: what is promised of an answer and of the words leaves no choice
pub explains_once : {S : ℕ} {img : Image} {t : ℕ} {words : List ℕ} (a b : Explained Reason) → Explains S img t words a → Explains S img t words b → a ≡ b
explains_once _ _ (unheld h) (unheld g) = refl
explains_once {S} {img} _ _ (unheld h) (narrow c f l) = absurd (h (holds_leads S img c f.holds))
explains_once {S} {img} _ _ (unheld h) (held c f l) = absurd (h (holds_leads S img c f.holds))
explains_once {S} {img} _ _ (narrow c f l) (unheld h) = absurd (h (holds_leads S img c f.holds))
explains_once _ _ (narrow c f l) (narrow d g m) = refl
explains_once _ _ (narrow c f l) (held d g m) =
    let e : length c.fields ≡ length d.fields = ap (λ (x : Chain). length x.fields) (foremost_once c d f g) in absurd (omega arith)
explains_once {S} {img} _ _ (held c f l) (unheld h) = absurd (h (holds_leads S img c f.holds))
explains_once _ _ (held c f l) (narrow d g m) =
    let e : length c.fields ≡ length d.fields = ap (λ (x : Chain). length x.fields) (foremost_once c d f g) in absurd (omega arith)
explains_once {S} {words = words} _ _ (held c f l) (held d g m) =
    ap (λ (x : Chain). explained (held_from (start_of x.start) (length x.fields)) (words_of S x ++ drop (2 * length x.fields + 1) words)) (foremost_once c d f g)

-- the name at a name's place is its word, which is not 0
name_of : (S : ℕ) (q : Name) → q.slot.0 < S → name_at S (place S q) ≡ word_of (Some q)
unfolding name_at word_of
name_of S q l = rw (digits_div q.partition.0 l, digits_mod q.partition.0 l)

name_some : (S j : ℕ) → name_at S j ≢ 0
unfolding name_at
name_some S j z = omega arith

-- an anchor is a root or a handle of the image, and has its word
start_is : (a : ℕ) → a < anchors → StartIn (start_of a) × (start_key (start_of a) ≡ anchor a)
start_is a l = go (ltb a roots) refl
  where
    go : (b : Bool) → ltb a roots ≡ b → StartIn (cond b (Root a) (Handle (session (a - roots)))) × (start_key (cond b (Root a) (Handle (session (a - roots)))) ≡ anchor a)
    go true e = (ltb-true a roots e, refl)
    go false e = (omega (arith, l), ap anchor (omega (arith, ltb-false a roots e)))

module _ (img : Image) (n : Name) where
  abbrev S : ℕ
  S = get img slots

  abbrev t : ℕ
  t = place (get img slots) n

  module _ (h : Present img n) where
    found : (words : List ℕ) → why_of img n words ≡ held_of (get img partitions * S) S img t words
    unfolding why_of
    found words = rw (present_judged img n h)

    -- OF AN OBJECT IN USE: the foremost chain, 19 where it needs more words, 18 where there is none
    pub why_explains : (words : List ℕ) → Explains S img t words (why_of img n words)
    why_explains words =
        let refs = present_refs img n h in
        subst (Explains S img t words) (sym (found words))
        (held_cases (get img partitions * S) S img t words (Explains S img t words)
        (λ l. unheld (λ c. let m = found_so (get img partitions * S) S img t refs c in omega arith))
        (λ l. by_cases S _ words (Explains S img t words) (narrow _ (found_foremost (get img partitions * S) S img t refs l)) (held _ (found_foremost (get img partitions * S) S img t refs l))))

    -- 2·P·S − 1 WORDS ARE ENOUGH: with so many, or more, it is never refused with 19
    pub why_enough : (words : List ℕ) → 2 * (get img partitions * S) ≤ length words + 1 → (said_reason (why_of img n words).answer).number ≢ 19
    why_enough words m = go (why_of img n words) (why_explains words)
      where
        go : (o : Explained Reason) → Explains S img t words o → (said_reason o.answer).number ≢ 19
        go _ (unheld x) e = omega arith
        go _ (narrow c f l) e = omega (arith, foremost_short (get img partitions * S) S img t (present_refs img n h) c f)
        go _ (held c f l) e = omega (arith, told_number (start_of c.start) (length c.fields))

    -- a chain's words spell it
    module _ (rest : List ℕ) where
      word_is : (κ : Key) → Holder (get img partitions * S) κ → (j : ℕ) → Names S img κ j → get img κ ≡ name_at S j
      word_is κ g j m = sym (name_word S (get img κ) m.some (h.sound.references κ g m.some).slot) ∙ ap (name_at S) m.target

      names_in : (κ : Key) → Holder (get img partitions * S) κ → (j : ℕ) → Names S img κ j → j < get img partitions * S
      names_in κ g j m = subst (λ (i : ℕ). i < get img partitions * S) m.target (present_refs img n h κ g m.some)

      follows_spelled : {j : ℕ} {ns fs : List ℕ} → j < get img partitions * S → Follows S img t j ns fs → Spelled img n (length fs) (name_at S j) (turns S ns fs ++ rest)
      unfolding turns
      follows_spelled l last = ends (name_of S n h.slot)
      follows_spelled l (on {j = j} {i} {k} a b c) =
          let e : place_of S (name_at S j) ≡ j = place_name S h.sound.limits.some_slot h.sound.limits.slots_most j in
          goes (name_some S j) a (ap (λ (x : ℕ). get img (field x k)) e ∙ word_is (field j k) (a_field l a) i b) (follows_spelled (names_in (field j k) (a_field l a) i b) c)

      holds_spells : (c : Chain) → Holds S img t c → Spells img n (start_of c.start) (length c.fields) (words_of S c ++ rest)
      unfolding words_of
      holds_spells c d =
          record {
            first = name_at S c.head;
            rest = turns S c.names c.fields ++ rest;
            words_are = refl;
            start_in = (start_is c.start d.anchored).0;
            start_holds = ap (get img) (start_is c.start d.anchored).1 ∙ word_is (anchor c.start) (an_anchor d.anchored) c.head d.named;
            goes_on = follows_spelled (names_in (anchor c.start) (an_anchor d.anchored) c.head d.named) d.follows;
          }

    -- AMONG CHAINS OF ITS LENGTH none comes before the foremost by names either: a place and its name are in the same order
    pub foremost_names : (c : Chain) → Foremost S img t c → (d : Chain) → Holds S img t d → length d.fields ≡ length c.fields
        → Upto (map (name_at S) (c.head ∷ c.names)) (map (name_at S) (d.head ∷ d.names))
    foremost_names c f d g e = named_upto (f.names_first d g e)
      where
        named_upto : {l m : List ℕ} → Upto l m → Upto (map (name_at S) l) (map (name_at S) m)
        named_upto ended = ended
        named_upto (less {a = a} {b} l) = less (name_rises S h.sound.limits.some_slot h.sound.limits.slots_most a b l)
        named_upto (same r) = same (named_upto r)

  -- whatever the image and the name are: refused as read and ask are, or so
  pub why_cases : (words : List ℕ) (Q : Explained Reason → Type 0) → ((r : Refusal) → judge_object img n ≡ Err r → Q (explained (Err r) words))
      → (Present img n → (o : Explained Reason) → Explains S img t words o → Q o) → Q (why_of img n words)
  unfolding why_of
  why_cases words Q refused explains = go (judge_object img n) refl
    where
      go : (u : Verdict) → judge_object img n ≡ u → Q (reasoned u (held_of (get img partitions * S) S img t words) words)
      go (Ok _) e = let h = judged_present img n e in subst Q (found h words) (explains h _ (why_explains h words))
      go (Err r) e = refused r e

  -- none of the refusals of read and ask is 18
  object_number : (r : Refusal) → judge_object img n ≡ Err r → r.number ≢ 18
  unfolding judge_object
  object_number r e =
      go _ e (check_among _ 1 0 _ (omega arith) (omega arith) (among_wider 1 9 _ (omega arith) (omega arith) (name_among (get img partitions) (get img slots) img n)))
    where
      go : (u : Verdict) → u ≡ Err r → Among 1 9 u → r.number ≢ 18
      go (Ok _) q a z = let y : ◌≡◌ {A = ℕ} 0 1 = cc in omega arith
      go (Err _) q (numbered x l m) z = let y : x.number ≡ r.number = cc in omega arith

  module _ (words : List ℕ) where
    -- 18 EXACTLY where ask says no
    pub why_18 : Exactly ((said_reason (why_of img n words).answer).number ≡ 18) (asked_of img n ≡ Ok false)
    why_18 =
        record {
          only = why_cases words (λ o. (said_reason o.answer).number ≡ 18 → asked_of img n ≡ Ok false) (λ r e z. absurd (object_number r e z)) unheld_asked;
          so = λ e.
              let u = (ask_no img n).only e in
              ap (λ (o : Explained Reason). (said_reason o.answer).number) (explains_once _ _ (why_explains u.present words) (unheld u.none));
        }
      where
        unheld_asked : Present img n → (o : Explained Reason) → Explains S img t words o → (said_reason o.answer).number ≡ 18 → asked_of img n ≡ Ok false
        unheld_asked h _ (unheld g) z = (ask_no img n).so (record { present = h; none = g })
        unheld_asked h _ (narrow c f l) z = absurd (omega arith)
        unheld_asked h _ (held c f l) z = absurd (omega (arith, told_number (start_of c.start) (length c.fields)))

    -- ANY REFUSAL leaves the words as found
    pub why_left : (said_reason (why_of img n words).answer).number ≢ 0 → (why_of img n words).words ≡ words
    why_left = why_cases words (λ o. (said_reason o.answer).number ≢ 0 → o.words ≡ words) (λ r e z. refl) (λ h. left)
      where
        left : (o : Explained Reason) → Explains S img t words o → (said_reason o.answer).number ≢ 0 → o.words ≡ words
        left _ (unheld g) z = refl
        left _ (narrow c f l) z = refl
        left _ (held c f l) z = absurd (z (told_number (start_of c.start) (length c.fields)))

    -- as many words are left as were lent
    pub why_length : length (why_of img n words).words ≡ length words
    why_length = why_cases words (λ o. length o.words ≡ length words) (λ r e. refl) (λ h. kept)
      where
        kept : (o : Explained Reason) → Explains S img t words o → length o.words ≡ length words
        kept _ (unheld g) = refl
        kept _ (narrow c f l) = refl
        kept _ (held c f l) =
            let m = words_length S c (follows_length f.holds.follows) in
            omega (arith, length-append (words_of S c) (drop (2 * length c.fields + 1) words), length-drop (2 * length c.fields + 1) words)

    -- an accepted answer is that of the foremost chain of an object in use
    record Told (s : Start) (k : ℕ) (left : List ℕ) : Type 0 where
      present : Present img n
      chain : Chain
      foremost : Foremost S img t chain
      start_is : start_of chain.start ≡ s
      number_is : length chain.fields ≡ k
      left_is : left ≡ words_of S chain ++ drop (2 * k + 1) words

    module _ (s : Start) (k : ℕ) (e : (why_of img n words).answer ≡ held_from s k) where
      told : Told s k (why_of img n words).words
      told = why_cases words (λ o. o.answer ≡ held_from s k → Told s k o.words) (λ r q z. unlike z) by e
        where
          unlike : {A : Type 0} {r : Refusal} → Err r ≡ held_from s k → A
          unlike z = let y : ◌≡◌ {A = ℕ} 0 1 = cc in absurd (omega arith)

          by : Present img n → (o : Explained Reason) → Explains S img t words o → o.answer ≡ held_from s k → Told s k o.words
          by h _ (unheld g) z = unlike z
          by h _ (narrow c f l) z = unlike z
          by h _ (held c f l) z =
              let w : ◌≡◌ {A = Held} (record { start = start_of c.start; references = length c.fields }) (record { start = s; references = k }) = cc in
              let q : length c.fields ≡ k = ap (λ (x : Held). x.references) w in
              record {
                present = h;
                chain = c;
                foremost = f;
                start_is = ap (λ (x : Held). x.start) w;
                number_is = q;
                left_is = ap (λ (i : ℕ). words_of S c ++ drop (2 * i + 1) words) q;
              }

      -- LATER WORDS STAY, from 2k + 1 on
      pub why_later : (i : ℕ) → 2 * k + 1 ≤ i → get_or (why_of img n words).words i 0 ≡ get_or words i 0
      why_later i l =
          let c : Chain = told.chain in
          let q : length c.fields ≡ k = told.number_is in
          let m : length (words_of S c) ≡ 2 * k + 1 = omega (arith, words_length S c (follows_length told.foremost.holds.follows)) in
          let d : ℕ = i - (2 * k + 1) in
          let a : length (words_of S c) + d ≡ i = omega arith in
          let b : 2 * k + 1 + d ≡ i = omega arith in
          ap (λ (l : List ℕ). get_or l i 0) told.left_is
          ∙ ap (λ (j : ℕ). get_or (words_of S c ++ drop (2 * k + 1) words) j 0) (sym a)
          ∙ get_or-append-add (words_of S c) (drop (2 * k + 1) words) d 0
          ∙ get_or-drop (2 * k + 1) words d 0
          ∙ ap (λ (j : ℕ). get_or words j 0) b

      -- k IS 0 exactly where a root or a handle names the object itself
      pub why_itself : Exactly (k ≡ 0) (Anchored S img t)
      why_itself =
          let c : Chain = told.chain in
          let f = told.foremost in
          let q : length c.fields ≡ k = told.number_is in
          record {
            only = λ z. (c.start, f.holds.anchored, subst (Names S img (anchor c.start)) (follows_none f.holds.follows (omega arith)) f.holds.named);
            so = λ a.
                omega
                (arith, f.shortest (record { start = a.0; head = t; names = []; fields = [] }) (record { anchored = a.1; named = a.2; follows = last }));
          }
        where
          follows_none : {j : ℕ} {ns fs : List ℕ} → Follows S img t j ns fs → length fs ≡ 0 → j ≡ t
          follows_none last z = refl
          follows_none (on l m a) z = absurd (omega arith)

      -- THE WORDS SPELL the chain: references held now, from the root or the handle to the object
      pub why_spells : Spells img n s k (why_of img n words).words
      why_spells =
          subst (Spells img n s k) (sym told.left_is)
          (subst (λ (j : ℕ). Spells img n s j (words_of S told.chain ++ drop (2 * k + 1) words)) told.number_is
          (subst (λ (r : Start). Spells img n r (length told.chain.fields) (words_of S told.chain ++ drop (2 * k + 1) words)) told.start_is
          (holds_spells told.present (drop (2 * k + 1) words) told.chain told.foremost.holds)))
