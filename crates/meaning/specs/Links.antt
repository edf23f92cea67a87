-- Links between references of equal meaning, notes of references that differ, and an answer within a budget. Assumes nothing.
use Rattle.std.specs.Prelude.{ℕ, zero, suc, ◌-◌, ◌≤◌, ◌<◌, Bool, true, false, cond, ◌≡◌, List, Option, Some, None, Result, Ok, Err, ltb, eqb, get_or}
use Rattle.meaning.specs.declared.Unequal.{Unequal}
use Rattle.meaning.specs.declared.Unequal.TheVariants.{Differ}
use Rattle.meaning.specs.Tree.{Tree}

-- what l holds for a reference: nothing for none, and nothing past its end
unfoldable pub held_of : List ℕ → ℕ → ℕ
held_of l zero = 0
held_of l (suc x) = get_or l x 0

-- a number below 32,768 is a link, 0 is none; one from there on is a note, so much above the reference that it names
unfoldable pub link : ℕ → ℕ
link v = cond (ltb v 32768) v 0

unfoldable pub link_of : List ℕ → ℕ → ℕ
link_of l x = link (held_of l x)

-- a link, if there is one
abbrev pub some_link : ℕ → Option ℕ
some_link v = cond (eqb v 0) None (Some v)

unfoldable pub note_of : List ℕ → ℕ → ℕ
note_of l x = held_of l x - 32768

-- v may be held for x, where f is what a reference means: a link is to a lower reference of equal meaning, a note names one that differs
pub record Held (f : ℕ → Tree) (x v : ℕ) : Type 0 where
  pub fits : v < 65536
  pub low : link v ≤ x - 1
  pub same : 1 ≤ link v → f (link v) ≡ f x
  pub apart : 1 ≤ v - 32768 → f (v - 32768) ≡ f x → ⊥

pub record Links (f : ℕ → Tree) (l : List ℕ) : Type 0 where
  pub all : (x : ℕ) → Held f x (held_of l x)

-- each number has 16 bits, and each link is to a lower reference
abbrev pub Falls : List ℕ → Type 0
Falls l = (x : ℕ) → (held_of l x < 65536) × (link_of l x ≤ x - 1)

-- x is on the way where l leads from r, and l' says no more than l
pub record Way (l l' : List ℕ) (r x : ℕ) : Type 0 where
  pub low : x ≤ r
  pub same : (f : ℕ → Tree) → Links f l → f x ≡ f r
  pub kept : (f : ℕ → Tree) → Links f l → Links f l'

-- x is where that way ends
pub record Led (l l' : List ℕ) (r x : ℕ) : Type 0 where
  pub way : Way l l' r x
  pub ends : link_of l' x ≡ 0

-- l' is l with one link more, from x to y
pub record Joins (l l' : List ℕ) (x y : ℕ) : Type 0 where
  pub falls : Falls l → Falls l'
  pub holds : (f : ℕ → Tree) → Links f l → f y ≡ f x → Links f l'

-- l' is l with one note more, that y differs from x
pub record Parts (l l' : List ℕ) (x y : ℕ) : Type 0 where
  pub holds : (f : ℕ → Tree) → Links f l → (f x ≡ f y → ⊥) → Links f l'

-- an answer within a budget: what differs is unequal, what is the same is equal, and a spent budget says nothing
pub record Judged {A : Type 0} (e : Bool) (v : Result A Unequal) : Type 0 where
  pub no : v ≡ Err Differ → e ≡ false
  pub yes : (x : A) → v ≡ Ok x → e ≡ true
