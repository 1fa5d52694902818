-- What an accepted call makes of every word of the image, in the paper's sentences, and nothing else (model/specs/Effects.antt); what close and local answer, and
-- what local spares; and ask: yes exactly where a root or a handle leads to the object, no exactly where none does.
-- Assumes nothing.
use Prim.Native.Nat.{ℕ, ◌+◌, ◌*◌, ◌≤◌, ◌<◌}
use mathlib.Core.Path.{◌≡◌, refl, sym, ap, ◌∙◌, subst}
use mathlib.Core.Bool.{Bool, true, false}
use mathlib.Core.List.{List}
use mathlib.Core.Logic.{◌≢◌, ⊎_elim}
use native.Mathlib.Omega.{arith}
use lib.ListN.{length}
use lib.Dec.{ltb}
use borrow.Author.Tests.{ltb-true, lt-ltb, le-leb}
use Rattle.loops.proofs.Tests.{clash, is_false, both_true}
use Rattle.kinds.specs.declared.Name.{Name}
use Rattle.kinds.specs.declared.Partition.{Partition}
use Rattle.kinds.specs.declared.Refusal.{Refusal}
use Rattle.kinds.specs.declared.Single.TheVariants.{Close, Local}
use Rattle.kinds.specs.Answers.{Verdict}
use Rattle.std.specs.Prelude.{Ok, Err}
use Rattle.kinds.specs.Answers.{allowed}
use Rattle.model.specs.Image.{Image, Key, head, anchor, flag, state, payload, inlist, field, is_count, partitions, slots, count, get, place, place_of, part_of, Holder}
use Rattle.model.specs.Acts.{Act, single, apply}
use Rattle.model.specs.Judge.{check, judge, judge_name}
use Rattle.model.specs.Questions.{ask}
use Rattle.model.specs.Chains.{Leads}
use Rattle.model.specs.Sound.{Sound}
use Rattle.model.specs.Effects.{In, Leaves, Effect, freed, KeptIn, Localizes, frees, frees_payload, frees_field, Untouched, Spares}
use Rattle.model.proofs.Committing.{check_true}
use Rattle.model.proofs.Soundness.{sound_true, sound_back, used_true, used_back}
use Rattle.model.proofs.SoundnessMoves.{reference_place}
use Rattle.model.proofs.Asking.{ask_so, ask_only}
use Rattle.model.proofs.Collecting.{spares}
use Rattle.model.proofs.Effects.{effect, effect_once}
use Rattle.writer.specs.Record.{record_of}
use Rattle.catalogue.specs.Answers.{totals, yield}
use Rattle.catalogue.specs.Call.{perform, judge_act, judge_object, call_by, closed, close_of, freed as freedBy, local_of, answered, asked_of}
use Rattle.promises.specs.Calls.{Call, single_call, act_of, calling}
use Rattle.promises.specs.Effects.{OfNoSlot, Exactly, Present, Led, Unled}
use Rattle.promises.proofs.Calling.{call_judged, call_accepted}

-- EVERY ACCEPTED CALL, on any words: P and S are words 0 and 1
module _ (img : Image) (c : Call) (log : List ℕ) (at : ℕ) (z : (calling img c log at).number ≡ 0) where
  sound : Sound img
  sound = sound_true img (call_judged img c (call_accepted img c log at z).judged).0

  pub call_effect : Effect (get img partitions) (get img slots) (act_of c) img (calling img c log at).image
  call_effect =
      let m = call_accepted img c log at z in
      subst (Effect (get img partitions) (get img slots) (act_of c) img) (sym m.image_is)
      (effect (get img partitions) (get img slots) img (act_of c) sound (call_judged img c m.judged).1)

  -- and it is the only image that is so
  pub call_effect_only : (y : Image) → Effect (get img partitions) (get img slots) (act_of c) img y → y ≡ (calling img c log at).image
  call_effect_only y e = effect_once (get img partitions) (get img slots) img y _ (act_of c) sound.length_agrees e call_effect

-- what an accepted act's call answers, with its record's length
answered_done : {A : Type 0} (done : ℕ → A) (refused : Refusal → A) (img : Image) (a : Act) (log : List ℕ) (at : ℕ)
    → judge_act img a ≡ allowed → at + length (record_of a) ≤ length log → (call_by done refused img a log at).answer ≡ done (length (record_of a))
unfolding call_by perform
answered_done done refused img a log at j l = rw (j, le-leb _ _ l)

-- CLOSE answers the record's length, the count, and the number of objects that it freed
pub close_answers : (img : Image) (log : List ℕ) (at : ℕ) → (calling img (single_call Close) log at).number ≡ 0
    → (close_of img log at).answer ≡ Ok (totals (length (record_of (single Close))) (get img count) (freed (get img partitions * get img slots) img (close_of img log at).image))
close_answers img log at z =
    let m = call_accepted img (single_call Close) log at z in
    answered_done (closed img) Err img (single Close) log at m.judged m.room
    ∙ ap (λ (n : ℕ). Ok (totals (length (record_of (single Close))) (get img count) n)) (call_effect img (single_call Close) log at z).number

-- LOCAL, of partition p: what it writes is of a slot that p does not keep
slot : Key → ℕ
slot (head h) = 0
slot (anchor a) = 0
slot (flag p) = 0
slot (state j) = j
slot (payload j) = j
slot (inlist j) = j
slot (field j k) = j

no_count : (κ : Key) → OfNoSlot κ → is_count κ ≡ false
no_count (head h) o = refl
no_count (anchor a) o = refl
no_count (flag p) o = refl
no_count (state j) o = refl
no_count (payload j) o = refl
no_count (inlist j) o = absurd o
no_count (field j k) o = refl

module _ {S p : ℕ} {x : Image} where
  written_unkept : {κ : Key} {v : ℕ} → Localizes S p x κ v → KeptIn S p x (slot κ) → ⊥
  unfolding slot
  written_unkept (frees own none) k = none k
  written_unkept (frees_payload own none) k = none k
  written_unkept (frees_field own none) k = none k

  written_slot : {κ : Key} {v : ℕ} → Localizes S p x κ v → OfNoSlot κ → ⊥
  written_slot (frees own none) o = o
  written_slot (frees_payload own none) o = o
  written_slot (frees_field own none) o = o

module _ (img : Image) (p : Partition) (log : List ℕ) (at : ℕ) (z : (calling img (single_call (Local p)) log at).number ≡ 0) where
  -- it answers the record's length, and the number of objects that it freed
  pub local_answers : (local_of img p log at).answer ≡ Ok (yield (length (record_of (single (Local p)))) (freed (get img partitions * get img slots) img (local_of img p log at).image))
  local_answers =
      let m = call_accepted img (single_call (Local p)) log at z in
      answered_done (freedBy img p) Err img (single (Local p)) log at m.judged m.room
      ∙ ap (λ (n : ℕ). Ok (yield (length (record_of (single (Local p)))) n)) (call_effect img (single_call (Local p)) log at z).number

  written : Leaves (get img partitions * get img slots) (get img slots) img (Localizes (get img slots) p.0 img) (calling img (single_call (Local p)) log at).image
  written = (call_effect img (single_call (Local p)) log at z).words

  -- it changes words of slots ONLY: no root, no handle, no flag, no count of traces, no allowance
  pub local_rest : (κ : Key) → In (get img partitions * get img slots) κ → OfNoSlot κ → get (calling img (single_call (Local p)) log at).image κ ≡ get img κ
  local_rest κ l o = ⊎_elim (λ w. absurd (written_slot w.1 o)) (λ q. q) (written.others κ l (no_count κ o))

  -- it leaves what p keeps, its mark too, as it was but for its count
  kept_word_lem : (κ : Key) → In (get img partitions * get img slots) κ → is_count κ ≡ false → KeptIn (get img slots) p.0 img (slot κ)
      → get (calling img (single_call (Local p)) log at).image κ ≡ get img κ
  kept_word_lem κ l c k = ⊎_elim (λ w. absurd (written_unkept w.1 k)) (λ q. q) (written.others κ l c)

  pub local_keeps : (j : ℕ) → j < get img partitions * get img slots → KeptIn (get img slots) p.0 img j → Untouched img (calling img (single_call (Local p)) log at).image j
  unfolding slot
  local_keeps j l k =
      record {
        state_stays = kept_word_lem (state j) l refl k;
        value_stays = kept_word_lem (payload j) l refl k;
        fields_stay = λ f m. kept_word_lem (field j f) (l, m) refl k;
      }

  -- and it frees an object of p EXACTLY where p does not keep it
  pub local_frees : (j : ℕ) → j < get img partitions * get img slots → part_of (get img slots) j ≡ p.0 → get img (state j) ≢ 0
      → Exactly (get (calling img (single_call (Local p)) log at).image (state j) ≡ 0) (KeptIn (get img slots) p.0 img j → ⊥)
  local_frees j l own in_use =
      record { only = λ e k. in_use (sym (local_keeps j l k).state_stays ∙ e); so = λ k. written.written (state j) 0 l (frees own k) }

  -- it LEAVES ALONE what a root or a handle leads to, and every other partition
  pub local_spares : Spares (get img partitions) (get img slots) p.0 img (calling img (single_call (Local p)) log at).image
  unfolding apply judge
  local_spares =
      let m = call_accepted img (single_call (Local p)) log at z in
      let j = call_judged img (single_call (Local p)) m.judged in
      let l : p.0 < get img partitions = ltb-true _ _ (check_true _ _ _ _ j.1).0 in
      subst (Spares (get img partitions) (get img slots) p.0 img) (sym m.image_is) (spares (get img partitions) (get img slots) p.0 l img (sound_true img j.0))

-- ASK
asked_so : (u : Verdict) (b c : Bool) → answered u b ≡ Ok c → (u ≡ allowed) × (b ≡ c)
asked_so (Ok _) b c e = (refl, (cc))
asked_so (Err r) b c e = absurd (let z : ◌≡◌ {A = ℕ} 0 1 = cc in omega arith)

module _ (img : Image) (n : Name) where
  pub judged_present : judge_object img n ≡ allowed → Present img n
  unfolding judge_object judge_name
  judged_present j =
      let a = check_true _ _ _ _ j in
      let b = check_true _ _ _ _ a.1 in
      let h = both_true (ltb n.partition.0 (get img partitions)) (ltb n.slot.0 (get img slots)) b.0 in
      record { sound = sound_true img a.0; partition = ltb-true _ _ h.0; slot = ltb-true _ _ h.1; in_use = used_true img _ (check_true _ _ _ _ b.1).0 }

  module _ (h : Present img n) where
    pub present_judged : judge_object img n ≡ allowed
    unfolding judge_object judge_name check
    present_judged = rw (sound_back img h.sound, lt-ltb _ _ h.partition, lt-ltb _ _ h.slot, used_back img _ h.in_use)

    present_asked : asked_of img n ≡ Ok (ask (get img partitions) (get img slots) img (place (get img slots) n))
    unfolding asked_of
    present_asked = rw present_judged

    -- every reference leads to a place
    pub present_refs : (κ : Key) → Holder (get img partitions * get img slots) κ → get img κ ≢ 0 → place_of (get img slots) (get img κ) < get img partitions * get img slots
    present_refs κ g m = reference_place _ _ img κ g m h.sound

    led_asked : Leads (get img slots) img (place (get img slots) n) → ask (get img partitions) (get img slots) img (place (get img slots) n) ≡ true
    led_asked l = ask_so (get img partitions) (get img slots) img present_refs (place (get img slots) n) l

    asked_led : ask (get img partitions) (get img slots) img (place (get img slots) n) ≡ true → Leads (get img slots) img (place (get img slots) n)
    asked_led e = ask_only (get img partitions) (get img slots) img present_refs (place (get img slots) n) e

  -- YES EXACTLY where a root or a handle leads to the object, NO EXACTLY where none does
  pub ask_yes : Exactly (asked_of img n ≡ Ok true) (Led img n)
  unfolding asked_of
  ask_yes =
      record {
        only = λ e. let a = asked_so _ _ _ e in let h = judged_present a.0 in record { present = h; leads = asked_led h a.1 };
        so = λ l. present_asked l.present ∙ rw (led_asked l.present l.leads);
      }

  pub ask_no : Exactly (asked_of img n ≡ Ok false) (Unled img n)
  unfolding asked_of
  ask_no =
      record {
        only = λ e. let a = asked_so _ _ _ e in let h = judged_present a.0 in record { present = h; none = λ l. clash (led_asked h l) a.1 };
        so = λ l. present_asked l.present ∙ rw (is_false _ (λ e. l.none (asked_led l.present e)));
      }
