-- Lists by their last entries that are not empty packs. Assumes nothing.
use Rattle.std.proofs.Common.{◌≡◌, ℕ, zero, suc, ◌+◌, ◌-◌, ◌≤◌, Bool, true, false, List, sym, refl, ap, ◌∙◌, add-zero, add-suc, arith}
use Rattle.meaning.specs.Tree.{Tree, node}
use Rattle.text.specs.Emit.{none, ◌⨾◌}
use Rattle.text.proofs.Seq.{seq-assoc, seq-none, none-seq}
use Rattle.serializer.specs.Serializer.{has_some, write_types}
use Rattle.serializer.specs.Lists.{is_pack, count_some, skip_packs, without_last, entry_after, last_entry, last_ones}

pub ones-zero : (f : ℕ) (t : Tree) → last_ones f t 0 ≡ none
unfolding last_ones
ones-zero f Tree.none = refl
ones-zero f (node k x s a b c) = refl

pub without-zero : (t : Tree) → without_last t 0 ≡ t
unfolding without_last
without-zero Tree.none = refl
without-zero (node k x s a b c) = refl

types-none : (f : ℕ) → write_types f Tree.none ≡ last_ones f Tree.none (count_some Tree.none)
unfolding write_types last_ones
types-none f = refl

one_none : (f : ℕ) → last_ones f Tree.none 1 ≡ last_entry f (skip_packs Tree.none)
unfolding last_ones last_entry skip_packs
one_none f = refl

one_entry : (f i : ℕ) (x s : List ℕ) (a b c : Tree) → entry_after f a b ≡ last_entry f (node i x s a b c)
unfolding last_entry
one_entry f i x s a b c = refl

types-pack : (f i : ℕ) (x s : List ℕ) (a b c : Tree) → is_pack b ≡ true → write_types f (node i x s a b c) ≡ write_types f a
unfolding write_types
types-pack f i x s a b c e = rw e (seq-none (write_types f a))

types_more : (f i : ℕ) (x s : List ℕ) (a b c : Tree) → is_pack b ≡ false → write_types f (node i x s a b c) ≡ write_types f a ⨾ entry_after f a b
unfolding write_types entry_after
types_more f i x s a b c e = rw e

-- a list whose last entry is an empty pack, or is none
module _ (i : ℕ) (x s : List ℕ) (a b c : Tree) where
  module _ (e : is_pack b ≡ true) where
    ones-pack : (f n : ℕ) → last_ones f (node i x s a b c) n ≡ last_ones f a n
    unfolding last_ones
    ones-pack f zero = sym (ones-zero f a)
    ones-pack f (suc n) = rw e

    pub without-pack : (h : ℕ) → without_last (node i x s a b c) (suc h) ≡ without_last a (suc h)
    unfolding without_last
    without-pack h = rw e

    pub skip-pack : skip_packs (node i x s a b c) ≡ skip_packs a
    unfolding skip_packs
    skip-pack = rw e

    pub count-pack : count_some (node i x s a b c) ≡ count_some a
    unfolding count_some
    count-pack = rw e

    pub some-pack : has_some (node i x s a b c) ≡ has_some a
    unfolding has_some
    some-pack = rw e

  module _ (e : is_pack b ≡ false) where
    ones-more : (f n : ℕ) → last_ones f (node i x s a b c) (suc n) ≡ last_ones f a n ⨾ entry_after f a b
    unfolding last_ones
    ones-more f n = rw e

    pub without_more : (h : ℕ) → without_last (node i x s a b c) (suc h) ≡ without_last a h
    unfolding without_last
    without_more h = rw e

    pub skip-more : skip_packs (node i x s a b c) ≡ node i x s a b c
    unfolding skip_packs
    skip-more = rw e

    pub count-more : count_some (node i x s a b c) ≡ suc (count_some a)
    unfolding count_some
    count-more = rw e

    pub some_more : has_some (node i x s a b c) ≡ true
    unfolding has_some
    some_more = rw e

-- what holds of a list with either kind of last entry holds of any
pub either : (P : Tree → Type 0) → P Tree.none
    → ((i : ℕ) (x s : List ℕ) (a b c : Tree) → P a → is_pack b ≡ true → P (node i x s a b c))
    → ((i : ℕ) (x s : List ℕ) (a b c : Tree) → P a → is_pack b ≡ false → P (node i x s a b c))
    → (t : Tree) → P t
either P n p m Tree.none = n
either P n p m (node i x s a b c) = by (is_pack b) refl (either P n p m a)
  where
    by : (e : Bool) → is_pack b ≡ e → P a → P (node i x s a b c)
    by true e h = p i x s a b c h e
    by false e h = m i x s a b c h e

abbrev Split : ℕ → Tree → Type 0
Split f t = (j k : ℕ) → last_ones f t (j + k) ≡ last_ones f (without_last t k) j ⨾ last_ones f t k

split-zero : (f : ℕ) (t : Tree) (j : ℕ) → last_ones f t (j + 0) ≡ last_ones f (without_last t 0) j ⨾ last_ones f t 0
split-zero f t j = ap (last_ones f t) (add-zero j) ∙ rw (without-zero t, ones-zero f t) (sym (seq-none (last_ones f t j)))

split-none : (f : ℕ) → Split f Tree.none
unfolding last_ones without_last
split-none f j k = sym (none-seq none)

-- the last j + k are j, and then k
ones_split : (f : ℕ) (t : Tree) → Split f t
ones_split f = either (Split f) (split-none f) pack more
  where
    pack : (i : ℕ) (x s : List ℕ) (a b c : Tree) → Split f a → is_pack b ≡ true → Split f (node i x s a b c)
    pack i x s a b c h e j zero = split-zero f (node i x s a b c) j
    pack i x s a b c h e j (suc k) = rw (ones-pack i x s a b c e f (j + suc k), without-pack i x s a b c e k, ones-pack i x s a b c e f (suc k)) (h j (suc k))

    more : (i : ℕ) (x s : List ℕ) (a b c : Tree) → Split f a → is_pack b ≡ false → Split f (node i x s a b c)
    more i x s a b c h e j zero = split-zero f (node i x s a b c) j
    more i x s a b c h e j (suc k) =
        ap (last_ones f (node i x s a b c)) (add-suc j k) ∙ rw (ones-more i x s a b c e f (j + k), without_more i x s a b c e k, ones-more i x s a b c e f k)
        (ap (λ u. u ⨾ entry_after f a b) (h j k) ∙ seq-assoc (last_ones f (without_last a k) j) (last_ones f a k) (entry_after f a b))

pub ones_halves : (f n h : ℕ) (t p : Tree) → h ≤ n → p ≡ without_last t h → last_ones f t n ≡ last_ones f p (n - h) ⨾ last_ones f t h
ones_halves f n h t p l e = let sum : n ≡ n - h + h = omega arith in
    ap (last_ones f t) sum ∙ ones_split f t (n - h) h ∙ ap (λ q. last_ones f q (n - h) ⨾ last_ones f t h) (sym e)

-- a list is all its entries that are not empty packs
types-all : (f : ℕ) (t : Tree) → write_types f t ≡ last_ones f t (count_some t)
types-all f = either (λ t. write_types f t ≡ last_ones f t (count_some t)) (types-none f) pack more
  where
    pack : (i : ℕ) (x s : List ℕ) (a b c : Tree) → write_types f a ≡ last_ones f a (count_some a) → is_pack b ≡ true
        → write_types f (node i x s a b c) ≡ last_ones f (node i x s a b c) (count_some (node i x s a b c))
    pack i x s a b c h e = types-pack f i x s a b c e ∙ h ∙ rw (count-pack i x s a b c e) (sym (ones-pack i x s a b c e f (count_some a)))

    more : (i : ℕ) (x s : List ℕ) (a b c : Tree) → write_types f a ≡ last_ones f a (count_some a) → is_pack b ≡ false
        → write_types f (node i x s a b c) ≡ last_ones f (node i x s a b c) (count_some (node i x s a b c))
    more i x s a b c h e =
        types_more f i x s a b c e ∙ ap (λ u. u ⨾ entry_after f a b) h ∙ rw (count-more i x s a b c e) (sym (ones-more i x s a b c e f (count_some a)))

pub types-count : (f n : ℕ) (t : Tree) → n ≡ count_some t → write_types f t ≡ last_ones f t n
types-count f n t e = types-all f t ∙ ap (last_ones f t) (sym e)

-- the last one is the last entry of the list up to it
pub ones-one : (f : ℕ) (t : Tree) → last_ones f t 1 ≡ last_entry f (skip_packs t)
ones-one f = either (λ t. last_ones f t 1 ≡ last_entry f (skip_packs t)) (one_none f) pack more
  where
    pack : (i : ℕ) (x s : List ℕ) (a b c : Tree) → last_ones f a 1 ≡ last_entry f (skip_packs a) → is_pack b ≡ true
        → last_ones f (node i x s a b c) 1 ≡ last_entry f (skip_packs (node i x s a b c))
    pack i x s a b c h e = ones-pack i x s a b c e f 1 ∙ h ∙ ap (last_entry f) (sym (skip-pack i x s a b c e))

    more : (i : ℕ) (x s : List ℕ) (a b c : Tree) → last_ones f a 1 ≡ last_entry f (skip_packs a) → is_pack b ≡ false
        → last_ones f (node i x s a b c) 1 ≡ last_entry f (skip_packs (node i x s a b c))
    more i x s a b c h e =
        ones-more i x s a b c e f 0 ∙ ap (λ u. u ⨾ entry_after f a b) (ones-zero f a) ∙ none-seq (entry_after f a b)
        ∙ one_entry f i x s a b c ∙ ap (last_entry f) (sym (skip-more i x s a b c e))
