-- The logic by which each production is shown to leave formed nodes, and to go no deeper than its node is high: one rule for each word. The productions are in Formed.antt.
-- A program runs in a part that was opened as the `count`-th. `Sound x w r need p Q` says: from the world w, where all is `Good`, if p answers with a, then for some h
--     all is good again, and nodes were only added;
--     Q holds of a, of its height, which is h raised by r, and of the world;
--     the depth has passed neither what it was nor count + h; and h is `need` or more.
-- r is 1 where a is a node that p has closed itself: it stands one above what it refers to. r is 0 where a is a part's, a stored one or a list.
-- `need` is the height of what was read before: a node that refers to all of that is high enough, and only then the depth of what it was read by is covered.
--     reads-sound   a reading of a grammar whose productions are sound
-- Assumes nothing.
use Prim.Native.Nat.{ℕ, zero, suc, ◌+◌, ◌-◌, ◌<◌, ◌≤◌, max}
use Prim.Native.String.{String}
use mathlib.Core.Path.{◌≡◌, refl, sym, ap, subst, ◌∙◌}
use mathlib.Core.List.{List, [], ◌∷◌, ◌++◌, append-nil, append_assoc}
use mathlib.Core.Bool.{Bool, true, false}
use native.Mathlib.Omega.{arith}
use native.Mathlib.Decide.{ℕ_discrete}
use lib.ListN.{length, get_or, set, take, length-append, length-set}
use lib.Seq.{get_or-set_same, get_or-set_other}
use lib.Dec.{ltb, leb}
use borrow.Author.Tests.{ltb-true}
use Rattle.scan.specs.Bytes.{pick, bytes}
use Rattle.form.specs.Kinds.{plain, scoped, var_type, function}
use Rattle.form.specs.Form.{fits}
use Rattle.grammar.specs.Program.{names, types, Program, ret, fail, look, when, skip, recall, store, part, sub, node, Reply, found, refused, Out, out, onward, Part, Same, run, added, any_of, with}
use Rattle.grammar.specs.Words.{◌⇒◌∥◌, ordered, digit, here, memo, set_memo, memorize_name, memorize_type, name_of, type_of}
use Rattle.grammar.specs.Counts.{Node, height_of, tallest, rises, made, deepens, closed, opened, shut_nodes, read_nodes}
use Rattle.grammar.specs.declared.State.{State}
use Rattle.grammar.specs.declared.Memo.{Memo}
use Rattle.grammar.proofs.Funded.{true-false, digit-inside}
use Rattle.grammar.proofs.Bounds.{both}
use Rattle.grammar.proofs.Calm.{moved, IfFound, Calm, Taken, after-quiet, run-quiet, starts-inside}
use Rattle.grammar.proofs.Rows.{kind_at, class_at, Known, known-later, has, within, wider, row_of, masks_of, Refs, Numbers, is_id, IdIf, NodeOk, FormedFrom, formed-snoc, known-last, kind-last, low-last, low-tallest, refs-tallest}

-- a state, and the nodes counted by then
pub record World : Type 0 where
  pub state : State
  pub nodes : List Node

abbrev pub world : State → List Node → World
world st ns = record { state = st; nodes = ns }

-- the same at another place, or with another memo
abbrev pub placed : ℕ → World → World
placed at w = world (moved at w.state) w.nodes

abbrev pub kept : Memo → World → World
kept m w = world (with m w.state) w.nodes

-- what is stored: names that stand anywhere or in a scope, and types
pub record Stored (ns : List Node) (m : Memo) : Type 0 where
  pub ten-names : length m.names ≡ 10
  pub ten-types : length m.types ≡ 10
  pub name : (i : ℕ) → i < m.names_len → fits (plain + scoped) (class_at ns (get_or m.names i 0 + 1)) ≡ true
  pub tall : (i : ℕ) → i < m.names_len → 1 ≤ height_of ns (get_or m.names i 0 + 1)
  pub type : (i : ℕ) → i < m.types_len → fits (var_type + function) (class_at ns (get_or m.types i 0 + 1)) ≡ true

-- what is true between two words of a reading: the nodes are formed, none is higher than the depth, and what is stored may stand where it is found again
pub record Good (s : List ℕ) (w : World) : Type 0 where
  pub inside : w.state.at ≤ length s
  pub used : w.state.used ≡ length w.nodes
  pub formed : FormedFrom (length s) [] w.nodes
  pub low : (r : ℕ) → height_of w.nodes r ≤ w.state.deep
  pub memo : Stored w.nodes w.state.memo

-- the height of an answer that stands so much above what it refers to
abbrev pub raised : ℕ → ℕ → ℕ
raised zero h = h
raised (suc r) h = suc (raised r h)

raised-sum : (r h : ℕ) → raised r h ≡ h + r
raised-sum zero h = omega arith
raised-sum (suc r) h = omega (arith, raised-sum r h)

-- what is said of an answer, its height and the world in which it is given
abbrev pub Post : Type 0 → Type 1
Post A = A → ℕ → World → Type 0

-- the end of a program that answers
pub record Ended {A : Type 0} (s : List ℕ) (count : ℕ) (w : World) (r need : ℕ) (Q : Post A) (a : A) (w' : World) : Type 0 where
  pub good : Good s w'
  pub more : List Node
  pub later : w'.nodes ≡ w.nodes ++ more
  pub height : ℕ
  pub needed : need ≤ height
  pub shallow : w'.state.deep ≤ max w.state.deep (count + height)
  pub holds : Q a (raised r height) w'

pub record Ends {A : Type 0} (s : List ℕ) (count : ℕ) (w : World) (r need : ℕ) (Q : Post A) (o : Out A (List Node)) : Type 0 where
  pub end : IfFound o.reply (λ a. Ended s count w r need Q a (world o.state o.cells))

-- what a program runs in. What a part asks for beforehand, and gives with its answer, goes by its tag
module _ {Tag : Type 0} {Ans : Tag → Type 0} (Asks : Tag → Type 0) (Gives : (tag : Tag) → Post (Ans tag)) where
  pub record Setting : Type 0 where
    pub symbol : List ℕ
    pub same : Same (List Node)
    pub limit : ℕ
    pub room : ℕ
    pub count : ℕ
    pub within : 1 ≤ count
    pub reader : Part Tag Ans (List Node)
    pub reads : (tag : Tag) → Asks tag → (w : World) → Good symbol w → Ends symbol count w 0 0 (Gives tag) (reader tag w.state w.nodes)

-- the judgement
module _ {Tag : Type 0} {Ans : Tag → Type 0} {Asks : Tag → Type 0} {Gives : (tag : Tag) → Post (Ans tag)} where
  pub record Sound {A : Type 0} (x : Setting Asks Gives) (w : World) (r need : ℕ) (p : Program Tag Ans A) (Q : Post A) : Type 0 where
    pub by : Good x.symbol w → Ends x.symbol x.count w r need Q (run x.symbol x.same (shut_nodes x.limit x.room) x.reader p w.state w.nodes)

-- an answer, as what follows it knows it
pub record Answer {A : Type 0} (w : World) (r : ℕ) (Q : Post A) : Type 0 where
  pub value : A
  pub world : World
  pub height : ℕ
  pub more : List Node
  pub later : world.nodes ≡ w.nodes ++ more
  pub holds : Q value (raised r height) world

-- what was known before it still is
pub since : {A : Type 0} {w : World} {r : ℕ} {Q : Post A} {mask n h : ℕ} (a : Answer w r Q) → Known mask w.nodes n h → Known mask a.world.nodes n h
since {w = w} a k = rw a.later (known-later w.nodes a.more k)

-- one end after another: the second has to reach what the first does
ended-then :
    {A : Type 0} {s : List ℕ} {count r need need₁ : ℕ} {Q : Post A} {a : A} (w w₁ w₂ : World) (h : ℕ) (more : List Node) → w₁.nodes ≡ w.nodes ++ more → w₁.state.deep ≤ max w.state.deep (count + h) →
    (need ≤ need₁) × (h ≤ need₁) → Ended s count w₁ r need₁ Q a w₂ → Ended s count w r need Q a w₂
ended-then w w₁ w₂ h more e d l x = record {
  good = x.good;
  more = more ++ x.more;
  later = x.later ∙ ap (◌++ x.more) e ∙ append_assoc w.nodes more x.more;
  height = x.height;
  needed = omega (arith, l.0, x.needed);
  shallow = omega (arith, l.1, x.needed, x.shallow);
  holds = x.holds;
}

if-found : {A : Type 0} (r : Reply A) {P P' : A → Type 0} → ((a : A) → P a → P' a) → IfFound r P → IfFound r P'
if-found (found a) f h = f a h
if-found (refused w) f h = tt

then-ends :
    {A B : Type 0} {s : List ℕ} {count rp r need first : ℕ} {P : Post B} {Q : Post A} (w : World) (y : Reply B) (o : Out B (List Node)) (f : B → State → List Node → Out A (List Node)) (second : ℕ → ℕ) →
    ((h : ℕ) → first ≤ h → (need ≤ second h) × (h ≤ second h)) → o.reply ≡ y → Ends s count w rp first P o →
    ((a : Answer w rp P) → Good s a.world → Ends s count a.world r (second a.height) Q (f a.value a.world.state a.world.nodes)) →
    Ends s count w r need Q (onward y o.state o.cells f)
then-ends {B = B} {s} {count} {rp = rp} {first = first} {P = P} w (found b) o f second l q e k =
    let w₁ : World = world o.state o.cells in
    let z = f b o.state o.cells in
    let x : Ended s count w rp first P b w₁ = subst (λ (y : Reply B). IfFound y (λ b. Ended s count w rp first P b w₁)) q e.end in
    record {
      end = if-found z.reply (λ a y. ended-then w w₁ (world z.state z.cells) x.height x.more x.later x.shallow (l x.height x.needed) y)
          (k (record { value = b; world = w₁; height = x.height; more = x.more; later = x.later; holds = x.holds }) x.good).end;
    }
then-ends w (refused y) o f second l q e k = record { end = tt }

same_ends : {A : Type 0} {s : List ℕ} {count r need : ℕ} {Q : Post A} (w : World) (y : Reply A) (o : Out A (List Node)) → o.reply ≡ y → Ends s count w r need Q o → Ends s count w r need Q (onward y o.state o.cells (λ a st ns. out (found a) st ns))
same_ends {A} {s} {count} {r} {need} {Q} w (found a) o q e = record { end = subst (λ (y : Reply A). IfFound y (λ a. Ended s count w r need Q a (world o.state o.cells))) q e.end }
same_ends w (refused y) o q e = record { end = tt }

-- nothing is counted
stays-ended :
    {A : Type 0} {s : List ℕ} {count r need : ℕ} {Q : Post A} {a : A} (w w₁ : World) (h : ℕ) → Good s w₁ → w₁.nodes ≡ w.nodes → w₁.state.deep ≡ w.state.deep → need ≤ h → Q a (raised r h) w₁ → Ended s count w r need Q a w₁
stays-ended w w₁ h g e d l q = record {
  good = g;
  more = [];
  later = e ∙ sym (append-nil w.nodes);
  height = h;
  needed = l;
  shallow = omega arith;
  holds = q;
}

-- less may be said of the answer
weaker-ends : {A : Type 0} {s : List ℕ} {count r need : ℕ} {P Q : Post A} {o : Out A (List Node)} (w : World) → ((a : A) (h : ℕ) (w : World) → P a h w → Q a h w) → Ends s count w r need P o → Ends s count w r need Q o
weaker-ends {A} {s} {count} {r} {need} {P} {Q} {o} w k x = record { end = if-found o.reply go x.end }
  where
    go : (a : A) → Ended s count w r need P a (world o.state o.cells) → Ended s count w r need Q a (world o.state o.cells)
    go a e = record { good = e.good; more = e.more; later = e.later; height = e.height; needed = e.needed; shallow = e.shallow; holds = k a _ _ e.holds }

-- from a world with the same nodes and depth
same_ended :
    {A : Type 0} {s : List ℕ} {count r need : ℕ} {Q : Post A} {a : A} {w₁ : World} (w w₀ : World) → w₀.nodes ≡ w.nodes → w₀.state.deep ≡ w.state.deep →
    Ended s count w₀ r need Q a w₁ → Ended s count w r need Q a w₁
same_ended w w₀ e d x = record {
  good = x.good;
  more = x.more;
  later = x.later ∙ ap (◌++ x.more) e;
  height = x.height;
  needed = x.needed;
  shallow = omega (arith, x.shallow);
  holds = x.holds;
}

moved_ends :
    {A : Type 0} {s : List ℕ} {count r need : ℕ} {Q : Post A} {o : Out A (List Node)} (w w₀ : World) → w₀.nodes ≡ w.nodes → w₀.state.deep ≡ w.state.deep →
    Ends s count w₀ r need Q o → Ends s count w r need Q o
moved_ends {o = o} w w₀ e d x = record { end = if-found o.reply (λ a y. same_ended w w₀ e d y) x.end }

good_placed : {s : List ℕ} {w : World} (at : ℕ) → at ≤ length s → Good s w → Good s (placed at w)
good_placed at l g = record { inside = l; used = g.used; formed = g.formed; low = g.low; memo = g.memo }

good-kept : {s : List ℕ} {w : World} (m : Memo) → Stored w.nodes m → Good s w → Good s (kept m w)
good-kept m k g = record { inside = g.inside; used = g.used; formed = g.formed; low = g.low; memo = k }

-- what is stored stays so where nodes are added
stored-later : {m : Memo} (ns more : List Node) → Stored ns m → Stored (ns ++ more) m
stored-later {m} ns more k = record {
  ten-names = k.ten-names;
  ten-types = k.ten-types;
  name = λ i l. (known-later {r = get_or m.names i 0 + 1} ns more (record { fit = k.name i l; high = refl })).fit;
  tall = λ i l. rw (known-later {r = get_or m.names i 0 + 1} ns more (record { fit = k.name i l; high = refl })).high (k.tall i l);
  type = λ i l. (known-later {r = get_or m.types i 0 + 1} ns more (record { fit = k.type i l; high = refl })).fit;
}

-- so what was stored before an answer still is
pub still : {A : Type 0} {w : World} {r : ℕ} {Q : Post A} {m : Memo} (a : Answer w r Q) → Stored w.nodes m → Stored a.world.nodes m
still {w = w} a k = rw a.later (stored-later w.nodes a.more k)

-- and one more may be stored: behind those that fit stands one that does
fit-more : (P : ℕ → Type 0) (xs : List ℕ) (n len : ℕ) → len < length xs → ((i : ℕ) → i < len → P (get_or xs i 0)) → P n → (i : ℕ) → i < len + 1 → P (get_or (set xs len n) i 0)
fit-more P xs n len room f p i l = go (ℕ_discrete i len)
  where
    go : Dec (i ≡ len) → P (get_or (set xs len n) i 0)
    go (yes e) = rw (e, get_or-set_same xs len n 0 room) p
    go (no e) = rw (get_or-set_other xs len i n 0 e) (f i (omega (arith, e)))

pick-stored : {ns : List Node} (b : Bool) (m m' : Memo) → (b ≡ true → Stored ns m) → Stored ns m' → Stored ns (pick b m m')
pick-stored true m m' p q = p refl
pick-stored false m m' p q = q

module _ (same : ℕ → ℕ → Bool) (ns : List Node) (n : ℕ) (m : Memo) (k : Stored ns m) where
  abbrev one_name : Memo
  one_name = record { names = set m.names m.names_len n; types = m.types; names_len = m.names_len + 1; types_len = m.types_len }

  abbrev one_type : Memo
  one_type = record { names = m.names; types = set m.types m.types_len n; names_len = m.names_len; types_len = m.types_len + 1 }

  name-added : fits (plain + scoped) (class_at ns (n + 1)) ≡ true → 1 ≤ height_of ns (n + 1) → Stored ns (added same names n m)
  name-added f h =
      pick-stored (ltb m.names_len 10) (pick (any_of (same n) (take m.names_len m.names)) m one_name) m
      (λ e. pick-stored (any_of (same n) (take m.names_len m.names)) m one_name (λ e. k)
      (record {
        ten-names = length-set m.names m.names_len n ∙ k.ten-names;
        ten-types = k.ten-types;
        name = fit-more (λ a. fits (plain + scoped) (class_at ns (a + 1)) ≡ true) m.names n m.names_len (omega (arith, ltb-true m.names_len 10 e, k.ten-names)) k.name f;
        tall = fit-more (λ a. 1 ≤ height_of ns (a + 1)) m.names n m.names_len (omega (arith, ltb-true m.names_len 10 e, k.ten-names)) k.tall h;
        type = k.type;
      }))
      k

  type-added : fits (var_type + function) (class_at ns (n + 1)) ≡ true → Stored ns (added same types n m)
  type-added f =
      pick-stored (ltb m.types_len 10) (pick (any_of (same n) (take m.types_len m.types)) m one_type) m
      (λ e. pick-stored (any_of (same n) (take m.types_len m.types)) m one_type (λ e. k)
      (record {
        ten-names = k.ten-names;
        ten-types = length-set m.types m.types_len n ∙ k.ten-types;
        name = k.name;
        tall = k.tall;
        type = fit-more (λ a. fits (var_type + function) (class_at ns (a + 1)) ≡ true) m.types n m.types_len (omega (arith, ltb-true m.types_len 10 e, k.ten-types)) k.type f;
      }))
      k

pick_ends : {A : Type 0} {s : List ℕ} {count r need : ℕ} {w : World} {Q : Post A} (b : Bool) (o o' : Out A (List Node)) → (b ≡ true → Ends s count w r need Q o) → (b ≡ false → Ends s count w r need Q o') → Ends s count w r need Q (pick b o o')
pick_ends true o o' p q = p refl
pick_ends false o o' p q = q refl

-- closing a node
rise-low : (b : Bool) (d h : ℕ) → h ≤ d → h + pick b 0 1 ≤ max d (pick b 0 (h + pick b 0 1))
rise-low true d h l = omega arith
rise-low false d h l = omega arith

rise-shallow : (b : Bool) (d count h : ℕ) → 1 ≤ count → max d (pick b 0 (h + pick b 0 1)) ≤ max d (count + h)
rise-shallow true d count h l = omega arith
rise-shallow false d count h l = omega arith

module _ (s : List ℕ) (w : World) (kd : ℕ) (numbers refs row : List ℕ) (t : ℕ)
    (is : row_of kd ≡ row) (known : get_or row 0 0 ≡ 0 → ⊥) (fit : Refs w.nodes (masks_of row) refs t) (bounded : Numbers (length s) row numbers) (id : IdIf (is_id kd) numbers) where
  abbrev new : Node
  new = made kd numbers refs w.nodes

  abbrev after : World
  after = world (closed (deepens new) w.state) (w.nodes ++ (new ∷ []))

  made_ok : NodeOk (length s) w.nodes new
  made_ok = record { known = rw is known; tall = t; refs = rw is fit; numbers = subst (λ (row : List ℕ). Numbers (length s) row numbers) (sym is) bounded; id = id; height = rw (refs-tallest fit) }

  made-good : Good s w → Good s after
  made-good g =
      let h : tallest w.nodes refs ≤ w.state.deep = low-tallest w.state.deep w.nodes refs g.low in
      record {
        inside = g.inside;
        used = omega (arith, g.used, length-append w.nodes (new ∷ []));
        formed = formed-snoc (length s) [] w.nodes new g.formed made_ok;
        low = low-last _ w.nodes new (λ r. omega (arith, g.low r)) (rise-low (leb kd 2) w.state.deep (tallest w.nodes refs) h);
        memo = stored-later w.nodes (new ∷ []) g.memo;
      }

  made-ended : (count need : ℕ) (Q : Post ℕ) → 1 ≤ count → Good s w → need ≤ t → Q w.state.used (t + rises kd) after → Ended s count w (rises kd) need Q w.state.used after
  made-ended count need Q l g n q = record {
    good = made-good g;
    more = new ∷ [];
    later = refl;
    height = t;
    needed = n;
    shallow = rw (refs-tallest fit) (rise-shallow (leb kd 2) w.state.deep count t l);
    holds = subst (λ (h : ℕ). Q w.state.used h after) (sym (raised-sum (rises kd) t)) q;
  }

  made_ends : (limit room count need : ℕ) (Q : Post ℕ) → 1 ≤ count → Good s w → need ≤ t → Q w.state.used (t + rises kd) after → Ends s count w (rises kd) need Q (shut_nodes limit room kd numbers refs w.state w.nodes)
  unfolding shut_nodes
  made_ends limit room count need Q l g n q =
      pick_ends (leb (deepens new) limit) _ _
      (λ e. pick_ends (leb (w.state.used + 1) room) _ _ (λ e. record { end = made-ended count need Q l g n q }) (λ e. record { end = tt }))
      (λ e. record { end = tt })

-- the rules of the instructions
module _ {Tag : Type 0} {Ans : Tag → Type 0} {Asks : Tag → Type 0} {Gives : (tag : Tag) → Post (Ans tag)} {x : Setting Asks Gives} where
  pub ends : {A : Type 0} {w : World} {r need : ℕ} {Q : Post A} {a : A} (h : ℕ) → Q a (raised r h) w → need ≤ h → Sound x w r need (ret a) Q
  unfolding run
  ends {w = w} h q l = record { by = λ g. record { end = stays-ended w w h g refl refl l q } }

  pub fails : {A : Type 0} {w : World} {r need : ℕ} {Q : Post A} → Sound x w r need fail Q
  unfolding run
  fails = record { by = λ g. record { end = tt } }

  pub looks : {A : Type 0} {w : World} {r need : ℕ} {Q : Post A} {k : List ℕ → ℕ → Program Tag Ans A} → Sound x w r need (k x.symbol w.state.at) Q → Sound x w r need (look k) Q
  unfolding run
  looks f = record { by = λ g. record { end = (f.by g).end } }

  pub chooses : {A : Type 0} {w : World} {r need : ℕ} {Q : Post A} {b : Bool} {p q : Program Tag Ans A} → (b ≡ true → Sound x w r need p Q) → (b ≡ false → Sound x w r need q Q) → Sound x w r need (when b p q) Q
  unfolding run
  chooses {b = b} f h = record { by = λ g. pick_ends b _ _ (λ e. (f e).by g) (λ e. (h e).by g) }

  pub recalls : {A : Type 0} {w : World} {r need : ℕ} {Q : Post A} {k : Memo → Program Tag Ans A} → (Stored w.nodes w.state.memo → Sound x w r need (k w.state.memo) Q) → Sound x w r need (recall k) Q
  unfolding run
  recalls f = record { by = λ g. record { end = ((f g.memo).by g).end } }

  pub then : {A B : Type 0} {w : World} {rp r need : ℕ} {P : Post B} {Q : Post A} {p : Program Tag Ans B} {k : B → Program Tag Ans A} → Sound x w rp 0 p P → ((a : Answer w rp P) → Sound x a.world r (max need a.height) (k a.value) Q) → Sound x w r need (sub p k) Q
  unfolding run
  then {w = w} {need = need} f h = record { by = λ g. then-ends w _ _ _ (max need) (λ h l. omega arith) refl (f.by g) (λ a g₁. (h a).by g₁) }

  -- the same where the first reaches what is needed: it closes a node over all that was read
  pub through : {A B : Type 0} {w : World} {rp r need : ℕ} {P : Post B} {Q : Post A} {p : Program Tag Ans B} {k : B → Program Tag Ans A} → Sound x w rp need p P → ((a : Answer w rp P) → Sound x a.world r a.height (k a.value) Q) → Sound x w r need (sub p k) Q
  unfolding run
  through {w = w} f h = record { by = λ g. then-ends w _ _ _ (λ h. h) (λ h l. omega arith) refl (f.by g) (λ a g₁. (h a).by g₁) }

  pub opens : {w : World} (tag : Tag) → Asks tag → Sound x w 0 0 (part tag ret) (Gives tag)
  unfolding run
  opens {w = w} tag c = record { by = λ g. same_ends w _ _ refl (x.reads tag c w g) }

  pub skips : {A : Type 0} {w : World} {r need n : ℕ} {Q : Post A} {p : Program Tag Ans A} → w.state.at + n ≤ length x.symbol → Sound x (placed (w.state.at + n) w) r need p Q → Sound x w r need (skip n p) Q
  unfolding run
  skips {w = w} l f = record { by = λ g. moved_ends w (placed _ w) refl refl (f.by (good_placed _ l g)) }

  pub stores-name : {A : Type 0} {w : World} {r need n h : ℕ} {Q : Post A} {p : Program Tag Ans A} → Known (plain + scoped) w.nodes (n + 1) (suc h) → ((m : Memo) → Sound x (kept m w) r need p Q) → Sound x w r need (store names n p) Q
  unfolding run
  stores-name {w = w} {n = n} k f = record { by = λ g. moved_ends w (kept _ w) refl refl ((f _).by (good-kept _ (name-added (x.same w.state.used w.nodes) w.nodes n w.state.memo g.memo k.fit (omega (arith, k.high))) g)) }

  pub stores-type : {A : Type 0} {w : World} {r need n h : ℕ} {Q : Post A} {p : Program Tag Ans A} → Known (var_type + function) w.nodes (n + 1) h → ((m : Memo) → Sound x (kept m w) r need p Q) → Sound x w r need (store types n p) Q
  unfolding run
  stores-type {w = w} {n = n} k f = record { by = λ g. moved_ends w (kept _ w) refl refl ((f _).by (good-kept _ (type-added (x.same w.state.used w.nodes) w.nodes n w.state.memo g.memo k.fit) g)) }

  -- closing a node: what its kind's row asks for
  pub closes :
      {w : World} {need t : ℕ} {numbers refs : List ℕ} {Q : Post ℕ} (kd : ℕ) (row : List ℕ) → row_of kd ≡ row → (get_or row 0 0 ≡ 0 → ⊥) →
      Refs w.nodes (masks_of row) refs t → Numbers (length x.symbol) row numbers → IdIf (is_id kd) numbers → need ≤ t →
      ((w' : World) → w'.nodes ≡ w.nodes ++ (made kd numbers refs w.nodes ∷ []) → Q (length w.nodes) (t + rises kd) w') →
      Sound x w (rises kd) need (node kd numbers refs ret) Q
  unfolding run
  closes {w} {need} {t} {numbers} {refs} {Q} kd row is known fit bounded id n q =
      let w' : World = after x.symbol w kd numbers refs row t is known fit bounded id in
      record {
        by = λ g. same_ends w _ _ refl (made_ends x.symbol w kd numbers refs row t is known fit bounded id x.limit x.room x.count need Q x.within g n (subst (λ (n : ℕ). Q n (t + rises kd) w') (sym g.used) (q w' refl)));
      }

  -- what is known of the place
  pub inside : {A : Type 0} {w : World} {r need : ℕ} {Q : Post A} {p : Program Tag Ans A} → (w.state.at ≤ length x.symbol → Sound x w r need p Q) → Sound x w r need p Q
  inside f = record { by = λ g. (f g.inside).by g }

  -- less may be said of the answer
  pub says : {A : Type 0} {w : World} {r need : ℕ} {P Q : Post A} {p : Program Tag Ans A} → Sound x w r need p P → ((a : A) (h : ℕ) (w : World) → P a h w → Q a h w) → Sound x w r need p Q
  says {w = w} f k = record { by = λ g. weaker-ends w k (f.by g) }

-- what productions answer with: a node whose class is one of the mask's; a list, which is the reference to its last place
abbrev pub NodeIs : ℕ → Post ℕ
NodeIs mask n h w = Known mask w.nodes (n + 1) h

-- the same where it is the last node, of a known kind
abbrev pub LastIs : ℕ → ℕ → Post ℕ
LastIs mask kd n h w = Known mask w.nodes (n + 1) h × (n + 1 ≡ length w.nodes) × (kind_at w.nodes n ≡ kd)

abbrev pub ListIs : ℕ → Post ℕ
ListIs mask l h w = Known mask w.nodes l h

-- of each entry of a table a test holds, of its length and its value
abbrev pub each : {X : Type 0} → (ℕ → X → Bool) → List (String × X) → Bool
each test [] = true
each test ((t, v) ∷ ts) = pick (test (length (bytes t)) v) (each test ts) false

has_some : (mask c : ℕ) → has mask c ≡ true → c ≡ 0 → ⊥
has_some mask c e z = true-false (sym e ∙ ap (has mask) z)

-- the rules of the words
module _ {Tag : Type 0} {Ans : Tag → Type 0} {Asks : Tag → Type 0} {Gives : (tag : Tag) → Post (Ans tag)} {x : Setting Asks Gives} where
  -- after a program that only takes bytes
  pub reads : {A B : Type 0} {w : World} {r need : ℕ} {P : B → ℕ → Type 0} {Q : Post A} {p : Program Tag Ans B} {k : B → Program Tag Ans A} → Calm x.symbol w.state.at P p → ((a : Taken x.symbol P) → Sound x (placed a.at w) r need (k a.value) Q) → Sound x w r need (sub p k) Q
  unfolding run
  reads {w = w} {r} {need} {P} {Q} {p} f h = record {
    by = λ g. after-quiet (Ends x.symbol x.count w r need Q) w.state w.nodes _ _ _ refl
        (run-quiet x.symbol x.same (shut_nodes x.limit x.room) x.reader p P w.state w.nodes g.inside (f.by g.inside))
        (λ a. moved_ends w (placed a.at w) refl refl ((h a).by (good_placed a.at a.inside g))) (λ y st ns. record { end = tt });
  }

  pub heres : {A : Type 0} {w : World} {r need : ℕ} {Q : Post A} {k : ℕ → Program Tag Ans A} → Sound x w r need (k w.state.at) Q → Sound x w r need (sub here k) Q
  unfolding run
  heres f = record { by = λ g. record { end = (f.by g).end } }

  -- the memo is read, and another put in its place
  pub remembers : {A : Type 0} {w : World} {r need : ℕ} {Q : Post A} {k : Memo → Program Tag Ans A} → (Stored w.nodes w.state.memo → Sound x w r need (k w.state.memo) Q) → Sound x w r need (sub memo k) Q
  unfolding run
  remembers f = record { by = λ g. record { end = ((f g.memo).by g).end } }

  pub replaces : {A : Type 0} {w : World} {r need : ℕ} {m : Memo} {Q : Post A} {k : Unit {0} → Program Tag Ans A} → Stored w.nodes m → Sound x (kept m w) r need (k tt) Q → Sound x w r need (sub (set_memo m) k) Q
  unfolding run
  replaces {w = w} k f = record { by = λ g. moved_ends w (kept _ w) refl refl (f.by (good-kept _ k g)) }

  pub on : {A : Type 0} {w : World} {r need : ℕ} {Q : Post A} (b : String) {p q : Program Tag Ans A} → Sound x (placed (w.state.at + length (bytes b)) w) r need p Q → Sound x w r need q Q → Sound x w r need (b ⇒ p ∥ q) Q
  on {w = w} b f h = inside (λ i. looks (chooses (λ e. skips (starts-inside x.symbol w.state.at b i e) f) (λ e. h)))

  pub digits : {A : Type 0} {w : World} {r need : ℕ} {Q : Post A} (p : ℕ → Program Tag Ans A) {q : Program Tag Ans A} → ((d : ℕ) → Sound x (placed (w.state.at + 1) w) r need (p d) Q) → Sound x w r need q Q → Sound x w r need (digit p q) Q
  digits {w = w} p f h = looks (chooses (λ e. skips (omega (arith, digit-inside x.symbol w.state.at e)) (f _)) (λ e. h))

  -- ordered choice: each entry behind its own bytes
  pub orders :
      {X A : Type 0} {w : World} {r need : ℕ} {Q : Post A} (test : ℕ → X → Bool) (table : List (String × X)) (k : X → Program Tag Ans A) {p : Program Tag Ans A} → each test table ≡ true →
      ((n : ℕ) (v : X) → test n v ≡ true → Sound x (placed (w.state.at + n) w) r need (k v) Q) → Sound x w r need p Q → Sound x w r need (ordered table k p) Q
  orders test [] k e f h = h
  orders test ((t, v) ∷ ts) k e f h = let l = both (test (length (bytes t)) v) (each test ts) e in on t (f (length (bytes t)) v l.0) (orders test ts k l.1 f h)

  -- a node of one mask's is one of a wider one's
  pub widens : {w : World} {r need mask : ℕ} {p : Program Tag Ans ℕ} (more : ℕ) → Sound x w r need p (NodeIs mask) → within mask more ≡ true → Sound x w r need p (NodeIs more)
  widens more f e = says f (λ a h w k. wider more k e)

  -- closing a node that is one of a mask's
  pub shuts-last :
      {w : World} {need t mask kd : ℕ} {numbers refs : List ℕ} (row : List ℕ) → row_of kd ≡ row → has mask (get_or row 0 0) ≡ true →
      Refs w.nodes (masks_of row) refs t → (need ≤ t) × Numbers (length x.symbol) row numbers × IdIf (is_id kd) numbers → Sound x w (rises kd) need (node kd numbers refs ret) (LastIs mask kd)
  shuts-last {w} {mask = mask} {kd} {numbers} {refs} row e f fit n =
      let new : Node = made kd numbers refs w.nodes in
      closes kd row e (has_some mask (get_or row 0 0) f) fit n.1 n.2 n.0
      (λ w' q. (
        rw q (subst (λ (h : ℕ). Known mask (w.nodes ++ (new ∷ [])) (length w.nodes + 1) (h + rises kd)) (refs-tallest fit) (known-last w.nodes new row e f)),
        rw q (sym (length-append w.nodes (new ∷ []))),
        rw q (kind-last w.nodes new),
      ))

  pub shuts-by :
      {w : World} {r need t mask kd : ℕ} {b : Bool} {numbers refs : List ℕ} (row : List ℕ) → row_of kd ≡ row → rises kd ≡ r → is_id kd ≡ b → has mask (get_or row 0 0) ≡ true →
      Refs w.nodes (masks_of row) refs t → (need ≤ t) × Numbers (length x.symbol) row numbers × IdIf b numbers → Sound x w r need (node kd numbers refs ret) (NodeIs mask)
  shuts-by {w} {need = need} {mask = mask} {kd} {b} {numbers} {refs} row e r d f fit n =
      let id : IdIf (is_id kd) numbers = subst (λ (b : Bool). IdIf b numbers) (sym d) n.2 in
      subst (λ (r : ℕ). Sound x w r need (node kd numbers refs ret) (NodeIs mask)) r (says (shuts-last {mask = mask} row e f fit (n.0, n.1, id)) (λ a h w k. k.0))

  pub shuts :
      {w : World} {need t mask kd : ℕ} {numbers refs : List ℕ} → has mask (get_or (row_of kd) 0 0) ≡ true →
      Refs w.nodes (masks_of (row_of kd)) refs t → (need ≤ t) × Numbers (length x.symbol) (row_of kd) numbers × IdIf (is_id kd) numbers → Sound x w (rises kd) need (node kd numbers refs ret) (NodeIs mask)
  shuts {kd = kd} f fit n = shuts-by (row_of kd) refl refl refl f fit n

  -- a stored name or type
  pub name-refs : {w : World} (i : ℕ) → Sound x w 0 0 (name_of i) (NodeIs (plain + scoped))
  name-refs {w} i = recalls (λ k. chooses (λ e. ends (height_of w.nodes (get_or w.state.memo.names i 0 + 1)) (record { fit = k.name i (ltb-true i w.state.memo.names_len e); high = omega arith }) (omega arith)) (λ e. fails))

  -- the same as a node of this part: a name is no list
  pub name-refs-here : {w : World} (i : ℕ) → Sound x w 1 0 (name_of i) (NodeIs (plain + scoped))
  name-refs-here {w} i =
      recalls (λ k. chooses
      (λ e. ends (height_of w.nodes (get_or w.state.memo.names i 0 + 1) - 1)
      (record { fit = k.name i (ltb-true i w.state.memo.names_len e); high = omega (arith, k.tall i (ltb-true i w.state.memo.names_len e)) }) (omega arith))
      (λ e. fails))

  -- there is none where none is stored
  pub no_names : {w : World} (i : ℕ) → w.state.memo.names_len ≡ 0 → Sound x w 0 0 (name_of i) (NodeIs 0)
  no_names {w} i z = recalls (λ k. chooses (λ e. absurd (omega (arith, ltb-true i w.state.memo.names_len e))) (λ e. fails))

  pub type-refs : {w : World} (i : ℕ) → Sound x w 0 0 (type_of i) (NodeIs (var_type + function))
  type-refs {w} i = recalls (λ k. chooses (λ e. ends (height_of w.nodes (get_or w.state.memo.types i 0 + 1)) (record { fit = k.type i (ltb-true i w.state.memo.types_len e); high = omega arith }) (omega arith)) (λ e. fails))

  -- a name is stored, and something follows
  pub stores : {A : Type 0} {w : World} {r need : ℕ} {Q : Post A} {n h : ℕ} {k : Unit {0} → Program Tag Ans A} → Known (plain + scoped) w.nodes (n + 1) (suc h) → ((m : Memo) → Sound x (kept m w) r need (k tt) Q) → Sound x w r need (sub (memorize_name n) k) Q
  unfolding run
  stores {w = w} {r = r} {need = need} {Q = Q} {n = n} {k = k} z f = record { by = λ g. record { end = ((stores-name {p = k tt} z f).by g).end } }

  -- the same of a type, where a test says so
  pub stores-if : {A : Type 0} {w : World} {r need : ℕ} {Q : Post A} {n h : ℕ} {k : Unit {0} → Program Tag Ans A} (b : Bool) → Known (var_type + function) w.nodes (n + 1) h → ((m : Memo) → Sound x (kept m w) r need (k tt) Q) → Sound x w r need (sub (when b (memorize_type n) (ret tt)) k) Q
  unfolding run
  stores-if {k = k} true z f = record { by = λ g. record { end = ((stores-type {p = k tt} z f).by g).end } }
  stores-if {w = w} false z f = record { by = λ g. record { end = ((f w.state.memo).by g).end } }

  -- and of a name, where it does not
  pub stores-unless : {A : Type 0} {w : World} {r need : ℕ} {Q : Post A} {n h : ℕ} {k : Unit {0} → Program Tag Ans A} (b : Bool) → Known (plain + scoped) w.nodes (n + 1) (suc h) → ((m : Memo) → Sound x (kept m w) r need (k tt) Q) → Sound x w r need (sub (when b (ret tt) (memorize_name n)) k) Q
  unfolding run
  stores-unless {w = w} true z f = record { by = λ g. record { end = ((f w.state.memo).by g).end } }
  stores-unless {k = k} false z f = record { by = λ g. record { end = ((stores-name {p = k tt} z f).by g).end } }

-- a part that was opened, as what opened it sees it: its node is one above what it refers to
opened-ends :
    {A : Type 0} {s : List ℕ} {Q : Post A} {o : Out A (List Node)} (outer count : ℕ) (w : World) → count ≡ outer + 1 → Ends s count (world (opened count w.state) w.nodes) 1 0 Q o → Ends s outer w 0 0 Q o
opened-ends {A} {s} {Q} {o} outer count w e x = record { end = if-found o.reply go x.end }
  where
    go : (a : A) → Ended s count (world (opened count w.state) w.nodes) 1 0 Q a (world o.state o.cells) → Ended s outer w 0 0 Q a (world o.state o.cells)
    go a y = record { good = y.good; more = y.more; later = y.later; height = suc y.height; needed = omega arith; shallow = omega (arith, y.shallow); holds = y.holds }

-- a grammar whose productions are sound
module _ {Tag : Type 0} {Ans : Tag → Type 0} {Asks : Tag → Type 0} {Gives : (tag : Tag) → Post (Ans tag)} (body : (tag : Tag) → Program Tag Ans (Ans tag)) (same : Same (List Node)) (s : List ℕ) (limit room : ℕ)
    (bodies : (x : Setting Asks Gives) → x.symbol ≡ s → (w : World) (tag : Tag) → Asks tag → Sound x w 1 0 (body tag) (Gives tag)) where
  pub reads-sound : (d : ℕ) → d ≤ limit → (tag : Tag) → Asks tag → (w : World) → Good s w → Ends s (limit - d) w 0 0 (Gives tag) (read_nodes body same s limit room d tag w.state w.nodes)
  unfolding read_nodes
  reads-sound zero l tag a w g = record { end = tt }
  reads-sound (suc d) l tag a w g =
      let x : Setting Asks Gives = record { symbol = s; same = same; limit = limit; room = room; count = limit - d; within = omega arith; reader = read_nodes body same s limit room d; reads = reads-sound d (omega arith) } in
      opened-ends (limit - suc d) (limit - d) w (omega arith)
      ((bodies x refl (world (opened (limit - d) w.state) w.nodes) tag a).by
      (record { inside = g.inside; used = g.used; formed = g.formed; low = λ r. omega (arith, g.low r); memo = g.memo }))
