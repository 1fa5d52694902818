-- Every accepted act is a row of moves: a word put, a reference stored, a freed object's reference released. What each of these keeps, every act keeps.
-- Assumes nothing.
use Prim.Native.Nat.{ℕ, ◌+◌, ◌*◌, ◌≤◌, ◌<◌}
use mathlib.Core.Path.{◌≡◌, refl, ◌∙◌}
use mathlib.Core.Bool.{Bool, true, false, cond}
use mathlib.Core.Logic.{◌≢◌}
use native.Mathlib.Omega.{arith}
use borrow.Author.Tests.{ne_eqb, ltb-true}
use Rattle.loops.proofs.Loops.{each_keeps}
use Rattle.kinds.specs.Names.{most_partitions, word_of}
use Rattle.kinds.specs.Names.{Target}
use Rattle.kinds.specs.declared.Operation.{Operation}
use Rattle.kinds.specs.declared.Single.TheVariants.{Open, Trace, Close, Local, Hold, Drop}
use Rattle.kinds.specs.Answers.{allowed}
use Rattle.model.specs.Image.{Image, Key, head, flag, state, payload, phase, count, allowance, get, put, place_of, refer, release, Holder, an_anchor, a_field}
use Rattle.model.specs.Acts.{Act, commit, single, local_bits, free_but, local_up, is_open, mark, mark_word, store, born, perform, unclean, allow, open_up, finish, trace_one, clear, shut, close_up, apply}
use Rattle.model.specs.Judge.{judge}
use Rattle.model.specs.Questions.{has_bit}
use Rattle.model.specs.Sound.{Limits}
use Rattle.model.proofs.Keys.{Fits, same, in_fits, get_put_apart, refer_apart, release_apart}
use Rattle.model.proofs.Places.{parts, slot_in}
use Rattle.model.proofs.Holders.{holder_in, holder_head}
use Rattle.model.proofs.Moves.{Linked, mark_keeps}
use Rattle.model.proofs.Tracing.{mark_linked, trace_marks}
use Rattle.model.proofs.Committing.{check_true, May, Good, good_new, good_set, good_val, good_root, commit_keeps, good_hold, good_drop, target_used_lem, mark_word_keeps}
use Rattle.model.proofs.Opening.{open_started, anchors_keep}
use Rattle.model.proofs.Closing.{settle_cases}

-- words that an act puts: the phase, the count, the allowance, a flag, a state, a payload
pub data Word : Key → Type 0 where
  head_word : {h : ℕ} → 2 ≤ h → h < 5 → Word (head h)
  flag_word : {p : ℕ} → p < most_partitions → Word (flag p)
  state_word : {j : ℕ} → Word (state j)
  payload_word : {j : ℕ} → Word (payload j)

pub data Made (n S : ℕ) (x : Image) : Image → Type 0 where
  as_is : Made n S x x
  worded : {y : Image} {κ : Key} (v : ℕ) → Word κ → Made n S x y → Made n S x (put y κ v)
  referred : {y : Image} {κ : Key} (w : ℕ) → Holder n κ → (w ≢ 0 → place_of S w < n) → Made n S x y → Made n S x (refer S y κ w)
  released : {y : Image} {κ : Key} → Holder n κ → Made n S x y → Made n S x (release S y κ)

-- words 0 and 1 stay
word_heading : (κ : Key) (h : ℕ) → h < 2 → Word κ → (same κ (head h) ≡ false) × Fits κ
word_heading _ h l (head_word {h = c} m k) = (ne_eqb c h (λ e. omega arith), k)
word_heading _ h l (flag_word k) = (refl, k)
word_heading _ h l state_word = (refl, tt)
word_heading _ h l payload_word = (refl, tt)

pub made_heading : (n S : ℕ) (x y : Image) (h : ℕ) → h < 2 → Made n S x y → get y (head h) ≡ get x (head h)
made_heading n S x _ h l as_is = refl
made_heading n S x _ h l (worded {y = y} {κ = κ} v w m) = let a = word_heading κ h l w in get_put_apart y κ v (head h) a.1 (omega arith) a.0 ∙ made_heading n S x y h l m
made_heading n S x _ h l (referred {y = y} {κ = κ} w g b m) = refer_apart S y κ w (head h) (in_fits n κ (holder_in g)) (omega arith) (holder_head g h) ∙ made_heading n S x y h l m
made_heading n S x _ h l (released {y = y} {κ = κ} g m) = release_apart S y κ (head h) (in_fits n κ (holder_in g)) (omega arith) (holder_head g h) ∙ made_heading n S x y h l m

module _ (P S : ℕ) (limits : Limits P S) (x : Image) where
  abbrev From : Image → Type 0
  From y = Made (P * S) S x y

  made_mark : (y : Image) (t : ℕ) → t < P * S → From y → From (mark S y t)
  made_mark y t l m =
      let q = parts P S limits.some_slot t l in
      mark_keeps P S limits From y t (λ e. worded _ state_word (worded _ (flag_word (omega arith)) m)) (λ ne. m)

  -- a mark of a place in range, of a linked heap
  LinkedFrom : Image → Type 0
  LinkedFrom y = Linked P S y × From y

  marked_on : (z : Image) (t : ℕ) → t < P * S → LinkedFrom z → LinkedFrom (mark S z t)
  unfolding LinkedFrom
  marked_on z t l q = (mark_linked P S limits z t l q.0, made_mark z t l q.1)

  made_store : (y : Image) (κ : Key) (t : Target) → Holder (P * S) κ → May P S y t → From y → From (store S y κ t)
  unfolding store
  made_store y κ t h m q = referred _ h (λ ne. (target_used_lem P S limits y t m ne).0) (go (is_open y))
    where
      go : (b : Bool) → From (cond b (mark_word S y (word_of t)) y)
      go true = mark_word_keeps P S limits From y (word_of t) (λ ne. made_mark y _ (target_used_lem P S limits y t m ne).0 q) (λ e. q)
      go false = q

  made_perform : (y : Image) (o : Operation) → Good P S y o → From y → From (perform S y o)
  unfolding perform born
  made_perform y _ (good_new lp ls e) q = worded _ payload_word (worded _ state_word q)
  made_perform y _ (good_set lp ls lk u t) q = made_store y _ _ (a_field (slot_in P S limits.some_slot _ _ lp ls) lk) t q
  made_perform y _ (good_val lp ls u) q = worded _ payload_word q
  made_perform y _ (good_root lr t) q = made_store y _ _ (an_anchor lr) t q

  made_unclean : (y : Image) → From y → From (unclean y)
  unfolding unclean
  made_unclean y q = each_keeps From most_partitions _ (λ z p l r. worded _ (flag_word l) r) y q

  phase_word_lem : Word phase
  phase_word_lem = head_word {h = 2} (omega arith) (omega arith)

  count_word : Word count
  count_word = head_word {h = 3} (omega arith) (omega arith)

  allowance_word : Word allowance
  allowance_word = head_word {h = 4} (omega arith) (omega arith)

  made_open : Linked P S x → From (open_up P S x)
  unfolding open_up allow LinkedFrom
  made_open w =
      worded _ allowance_word (worded _ count_word
      (anchors_keep P S limits LinkedFrom (λ z q. q.0) marked_on _ (open_started P S limits x w, made_unclean _ (worded _ phase_word_lem as_is))).1)

  made_trace : (p : ℕ) → p < P → Linked P S x → From (trace_one S p x)
  unfolding trace_one finish LinkedFrom
  made_trace p l w = worded _ count_word (worded _ (flag_word {p = p} (omega arith)) (trace_marks P S limits p l LinkedFrom (λ z q. q.0) (λ z i k li lk a e u q. marked_on z _ u q) x (w, as_is)).1)

  made_clear : (y : Image) (i : ℕ) → i < P * S → From y → From (clear S y i)
  unfolding clear
  made_clear y i l q = each_keeps From 4 _ (λ z k lk r. released (a_field l lk) r) _ (worded _ payload_word (worded _ state_word q))

  pub made_close : From (close_up P S x)
  unfolding close_up shut
  made_close =
      worded _ allowance_word (worded _ count_word (worded _ phase_word_lem
      (made_unclean _ (each_keeps From (P * S) _ (λ z i l q. settle_cases S From z i (λ e. made_clear z i l q) (λ e. worded _ state_word q) (λ a b. q)) x as_is))))

  pub made_local : (p : ℕ) → p < P → From (local_up P S p x)
  unfolding local_up free_but
  made_local p l = each_keeps From S _ (λ z s ls q. stay z (p * S + s) (slot_in P S limits.some_slot p s l ls) q (has_bit (local_bits P S p x) (p * S + s))) x as_is
    where
      stay : (z : Image) (i : ℕ) → i < P * S → From z → (b : Bool) → From (cond b z (clear S z i))
      stay z i li q true = q
      stay z i li q false = made_clear z i li q

  pub made : (a : Act) → judge P S x a ≡ allowed → Linked P S x → From (apply P S x a)
  unfolding judge apply perform
  made (commit os) j w = commit_keeps P S From made_perform x 1 os (check_true _ _ _ _ j).1 as_is
  made (single Open) j w = made_open w
  made (single (Trace p)) j w = made_trace p.0 (ltb-true _ _ (check_true _ _ _ _ (check_true _ _ _ _ j).1).0) w
  made (single Close) j w = made_close
  made (single (Local p)) j w = made_local p.0 (ltb-true _ _ (check_true _ _ _ _ j).0)
  made (single (Hold h n)) j w = made_perform x _ (good_hold P S x h n j) as_is
  made (single (Drop h)) j w = made_perform x _ (good_drop P S x h j) as_is
