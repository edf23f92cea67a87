-- A list of types by its last entries that are not empty packs: what the writer visits front to back. Assumes nothing: these are definitions.
use Rattle.std.specs.Prelude.{ℕ, zero, suc, Bool}
use Rattle.scan.specs.Bytes.{pick}
use Rattle.node.specs.Kind.{EmptyParameterPack}
use Rattle.meaning.specs.Tree.{Tree, node}
use Rattle.text.specs.Emit.{Text, none, ◌⨾◌, when}
use Rattle.serializer.specs.Serializer.{is_kind, kind_of, is_empty, has_some, comma, write_pre, write_post}

abbrev pub is_pack : Tree → Bool
is_pack t = is_kind EmptyParameterPack (kind_of t)

unfoldable pub count_some : Tree → ℕ
count_some Tree.none = 0
count_some (node k x s a b c) = pick (is_pack b) (count_some a) (suc (count_some a))

-- the list up to its last such entry
unfoldable pub skip_packs : Tree → Tree
skip_packs Tree.none = Tree.none
skip_packs (node k x s a b c) = pick (is_pack b) (skip_packs a) (node k x s a b c)

-- the list without its last h such entries
unfoldable pub without_last : Tree → ℕ → Tree
without_last Tree.none h = Tree.none
without_last (node k x s a b c) zero = node k x s a b c
without_last (node k x s a b c) (suc h) = pick (is_pack b) (without_last a (suc h)) (without_last a h)

-- an entry, with its comma after the list before it
unfoldable pub entry_after : ℕ → Tree → Tree → Text
entry_after f before entry = when (has_some before) (comma f) ⨾ write_pre f entry ⨾ write_post f entry

-- the last of a list's places
unfoldable pub last_entry : ℕ → Tree → Text
last_entry f Tree.none = none
last_entry f (node k x s a b c) = entry_after f a b

-- the last n such entries
unfoldable pub last_ones : ℕ → Tree → ℕ → Text
last_ones f Tree.none n = none
last_ones f (node k x s a b c) zero = none
last_ones f (node k x s a b c) (suc n) = pick (is_pack b) (last_ones f a (suc n)) (last_ones f a n ⨾ entry_after f a b)

-- the entry of a list's first place
unfoldable pub first_entry : Tree → Tree
first_entry Tree.none = Tree.none
first_entry (node k x s a b c) = pick (is_empty a) b (first_entry a)
