-- What a reading does with the memo, for every way to close a node, to read a part and to tell nodes apart.
--     hands-back    a template that answers hands back the memo that it found
--     digit-NAME    a digit is the entry of the memo as it stands there, and takes its byte; in a list (scope, params) the entry gets its place, and no more
--     bad-NAME      a digit past the entries in use is refused behind its byte
-- Assumes nothing.
use Prim.Native.Nat.{ℕ, zero, suc, ◌+◌, ◌-◌, ◌<◌, ◌≤◌}
use Prim.Native.Char.{code}
use mathlib.Core.Path.{◌≡◌, refl, sym, ap, subst, ◌∙◌}
use mathlib.Core.List.{List, [], ◌∷◌, ◌++◌}
use mathlib.Core.Bool.{Bool, true, false}
use borrow.Author.Tests.{lt-ltb, le-ltb, lt-leb, eqb-true}
use lib.Dec.{leb, eqb}
use lib.ListN.{length, get_or, drop}
use Rattle.scan.specs.Bytes.{pick, bytes, starts, is_digit}
use Rattle.scan.specs.Cursor.{read_digit}
use Rattle.std.specs.Prelude.{Option, Some}
use Rattle.forms.specs.Types.{type_reference, Reference}
use Rattle.forms.specs.Types as types
use Rattle.grammar.specs.Program.{ret, part, sub, Reply, found, refused, Out, out, onward, Part, Shut, Same, run, at+, with}
use Rattle.grammar.specs.Words.{byte_at, type_of}
use Rattle.grammar.specs.Counts.{Node, made, deepens, closed, shut_nodes, shut_asking}
use Rattle.grammar.specs.Table.{shut_at, shut_table}
use Rattle.node.specs.Cells as table
use Rattle.node.specs.declared.Node as row
use Rattle.grammar.specs.Grammar.{Tag, Ans, VarType, place, unqualified_name, nested_name, reference_or, var_type, scope_from, stored_param, params_from, params, empty_memo, template_name, to}
use Rattle.node.specs.Kind.{NamePlace, TypePlace, Template, kind_number}
use Rattle.grammar.specs.declared.State.{State}
use Rattle.grammar.specs.declared.Memo.{Memo}
use Rattle.grammar.specs.declared.Refusal.TheVariants.{Syntax, Deep, Full}
use Rattle.grammar.proofs.Funded.{true-false, digit-inside}
use Rattle.grammar.proofs.Calm.{IfFound}

-- closing a node changes neither the place nor the memo
pub record Still (st st' : State) : Type 0 where
  pub at : st'.at ≡ st.at
  pub memo : st'.memo ≡ st.memo

abbrev pub Steady : {T : Type 0} → Shut T → Type 0
Steady {T} shut = (kd : ℕ) (numbers refs : List ℕ) (st : State) (t : T) → Still st (shut kd numbers refs st t).state

closes-still : {T : Type 0} (low fit : Bool) (h : ℕ) (st : State) (x y : T) → Still st (pick low (pick fit (out (found st.used) (closed h st) x) (out (refused Full) st y)) (out (refused Deep) st y)).state
closes-still true true h st x y = record { at = refl; memo = refl }
closes-still true false h st x y = record { at = refl; memo = refl }
closes-still false fit h st x y = record { at = refl; memo = refl }

pub nodes-steady : (limit room : ℕ) → Steady (shut_nodes limit room)
unfolding shut_nodes
nodes-steady limit room kd numbers refs st ns = let n : Node = made kd numbers refs ns in closes-still (leb (deepens n) limit) (leb (st.used + 1) room) (deepens n) st (ns ++ (n ∷ [])) ns

at-still : (limit room depth : ℕ) (x : row.Node) (st : State) (t : List ℕ) → Still st (shut_at limit room depth x st t).state
at-still limit room depth x st t = closes-still (leb depth limit) (leb (st.used + 1) room) depth st (table.stored t st.used x) t

pub table-steady : (limit room : ℕ) → Steady (shut_table limit room)
unfolding shut_table
table-steady limit room kd numbers refs st t = at-still limit room _ _ st t

pub asking-steady : Steady shut_asking
unfolding shut_asking
asking-steady kd numbers refs st l = record { at = refl; memo = refl }

-- an answer leaves this memo
record Leaves {A T : Type 0} (m : Memo) (o : Out A T) : Type 0 where
  end : IfFound o.reply (λ a. o.state.memo ≡ m)

then-leaves : {A B T : Type 0} {m : Memo} (r : Reply A) (st : State) (t : T) (f : A → State → T → Out B T) → ((a : A) (st : State) (t : T) → Leaves m (f a st t)) → Leaves m (onward r st t f)
then-leaves (found a) st t f k = k a st t
then-leaves (refused w) st t f k = record { end = tt }

closes-leave : {T : Type 0} {m : Memo} (o : Out ℕ T) (r : Reply ℕ) → o.state.memo ≡ m → Leaves m (onward r o.state o.cells (λ n st t. out (found n) st t))
closes-leave o (found n) e = record { end = e }
closes-leave o (refused w) e = record { end = tt }

-- a byte that is a digit is no other
no_other : (x c : ℕ) (b : Bool) → eqb x c ≡ b → is_digit x ≡ true → is_digit c ≡ false → pick b true false ≡ false
no_other x c true e h n = true-false (sym h ∙ ap is_digit (eqb-true x c e) ∙ n)
no_other x c false e h n = refl

not-starts : (c : ℕ) (s : List ℕ) (at : ℕ) → is_digit c ≡ false → is_digit (byte_at s at) ≡ true → starts (c ∷ []) (drop at s) ≡ false
not-starts c [] zero n h = refl
not-starts c [] (suc at) n h = refl
not-starts c (x ∷ s) zero n h = no_other x c (eqb x c) refl h n
not-starts c (x ∷ s) (suc at) n h = not-starts c s at n h

read-digit : (s : List ℕ) (at : ℕ) → is_digit (byte_at s at) ≡ true → read_digit (drop at s) ≡ Some (byte_at s at - code "0")
unfolding read_digit
read-digit [] at h = true-false (sym h)
read-digit (x ∷ s) zero h = rw h
read-digit (x ∷ s) (suc at) h = read-digit s at h

-- so a digit is a stored type
pub digit-refers : (s : List ℕ) (at : ℕ) → is_digit (byte_at s at) ≡ true → type_reference (drop at s) ≡ Some (byte_at s at - code "0", 1)
unfolding type_reference
digit-refers s at h = rw (not-starts (code "$") s at refl h) (ap (λ (x : Option ℕ). types.stored 0 x) (read-digit s at h))

module _ {T : Type 0} (s : List ℕ) (same : Same T) (shut : Shut T) (rec : Part Tag Ans T) where
  -- the memo of a template that answers is the one that it found
  hands : Steady shut → (st : State) (t : T) → Leaves st.memo (run s same shut rec template_name st t)
  unfolding run template_name
  hands steady st t =
      then-leaves (run s same shut rec (unqualified_name false) (with empty_memo st) t).reply _ _ _
      (λ a st₁ t₁. then-leaves (run s same shut rec params st₁ t₁).reply _ _ _
      (λ l st₂ t₂. let o = shut (kind_number Template) [] (to a.0 ∷ l ∷ []) (with st.memo st₂) t₂ in closes-leave o o.reply (steady _ _ _ (with st.memo st₂) t₂).memo))

  pub hands-back : Steady shut → (st : State) (t : T) (n : ℕ) → (run s same shut rec template_name st t).reply ≡ found n → (run s same shut rec template_name st t).state.memo ≡ st.memo
  hands-back steady st t n e = subst (λ (r : Reply ℕ). IfFound r (λ a. (run s same shut rec template_name st t).state.memo ≡ st.memo)) e (hands steady st t).end

  -- a type of the memo
  module _ (i : ℕ) (st : State) (t : T) where
    type-entry : i < st.memo.types_len → run s same shut rec (type_of i) st t ≡ out (found (get_or st.memo.types i 0)) st t
    unfolding run
    type-entry l = rw (lt-ltb i st.memo.types_len l)

    no-type : st.memo.types_len ≤ i → run s same shut rec (type_of i) st t ≡ out (refused Syntax) st t
    unfolding run
    no-type l = rw (le-ltb i st.memo.types_len l)

  -- where a digit stands, i is the entry that it names
  module _ (st : State) (t : T) (h : is_digit (byte_at s st.at) ≡ true) where
    abbrev i : ℕ
    i = byte_at s st.at - code "0"

    abbrev name : ℕ
    name = get_or st.memo.names i 0

    abbrev type : ℕ
    type = get_or st.memo.types i 0

    no-at : starts (bytes "@") (drop st.at s) ≡ false
    no-at = not-starts (code "@") s st.at refl h

    no-z : starts (bytes "Z") (drop st.at s) ≡ false
    no-z = not-starts (code "Z") s st.at refl h

    no_end : leb (length s) st.at ≡ false
    no_end = lt-leb (length s) st.at (digit-inside s st.at h)

    module _ (l : i < st.memo.names_len) where
      pub digit-unqualified : (function : Bool) → run s same shut rec (unqualified_name function) st t ≡ out (found (name, false)) (at+ 1 st) t
      unfolding run
      digit-unqualified function = rw (h, lt-ltb i st.memo.names_len l)

      pub digit-nested : run s same shut rec nested_name st t ≡ out (found name) (at+ 1 st) t
      unfolding run
      digit-nested = rw (h, lt-ltb i st.memo.names_len l)

      -- a turn of a scope: the entry gets its place
      pub digit-scope : (turns last : ℕ) → run s same shut rec (scope_from (suc turns) last) st t ≡ run s same shut rec (sub (place NamePlace name last) (scope_from turns)) (at+ 1 st) t
      unfolding run scope_from
      digit-scope turns last = rw (no-at, h, lt-ltb i st.memo.names_len l)

    module _ (l : st.memo.names_len ≤ i) where
      pub bad-unqualified : (function : Bool) → run s same shut rec (unqualified_name function) st t ≡ out (refused Syntax) (at+ 1 st) t
      unfolding run
      bad-unqualified function = rw (h, le-ltb i st.memo.names_len l)

      pub bad-nested : run s same shut rec nested_name st t ≡ out (refused Syntax) (at+ 1 st) t
      unfolding run
      bad-nested = rw (h, le-ltb i st.memo.names_len l)

      pub bad-scope : (turns last : ℕ) → run s same shut rec (scope_from (suc turns) last) st t ≡ out (refused Syntax) (at+ 1 st) t
      unfolding run scope_from
      bad-scope turns last = rw (no-at, h, le-ltb i st.memo.names_len l)

    pub digit-params : i < st.memo.types_len → (turns last : ℕ) → run s same shut rec (params_from (suc turns) last) st t ≡ run s same shut rec (sub (place TypePlace type last) (params_from turns)) (at+ 1 st) t
    unfolding run params_from stored_param
    digit-params l turns last = rw (no-at, no-z, no_end, h, lt-ltb i st.memo.types_len l)

    pub bad-params : st.memo.types_len ≤ i → (turns last : ℕ) → run s same shut rec (params_from (suc turns) last) st t ≡ out (refused Syntax) (at+ 1 st) t
    unfolding run params_from stored_param
    bad-params l turns last = rw (no-at, no-z, no_end, h, le-ltb i st.memo.types_len l)

  -- a stored type, also behind `$` and `$$C`
  module _ (st : State) (t : T) (sc i n : ℕ) (e : type_reference (drop st.at s) ≡ Some (i, n)) where
    stored-type : run s same shut rec (var_type sc) st t ≡ run s same shut rec (type_of i) (at+ n st) t
    unfolding run
    stored-type = ap (λ (x : Reference). run s same shut rec (reference_or x (part (VarType sc) ret)) st t) e

    pub digit-type : i < st.memo.types_len → run s same shut rec (var_type sc) st t ≡ out (found (get_or st.memo.types i 0)) (at+ n st) t
    digit-type l = stored-type ∙ type-entry i (at+ n st) t l

    pub bad-type : st.memo.types_len ≤ i → run s same shut rec (var_type sc) st t ≡ out (refused Syntax) (at+ n st) t
    bad-type l = stored-type ∙ no-type i (at+ n st) t l
