-- The language that the grammar is written in, and what a program of it does. `Program Tag Ans A` reads the symbol from the state's place on and answers with an A.
-- The parts that open are those of Tag; the part `tag` answers with an `Ans tag`. Assumes nothing: these are definitions.
use Rattle.std.specs.Prelude.{ℕ, ◌+◌, List, [], ◌∷◌, Bool, true, false, set, take, ltb}
use Rattle.scan.specs.Bytes.{pick}
use Rattle.grammar.specs.declared.Memo.{Memo}
use Rattle.grammar.specs.declared.State.{State}
use Rattle.grammar.specs.declared.Refusal.{Refusal}
use Rattle.grammar.specs.declared.Refusal.TheVariants.{Syntax}

-- the two lists of a memo
pub data Store : Type 0 where
  names : Store
  types : Store

pub data Program (Tag : Type 0) (Ans : Tag → Type 0) : Type 0 → Type 1 where
  -- the answer
  ret : {A : Type 0} → A → Program Tag Ans A
  -- no derivation
  fail : {A : Type 0} → Program Tag Ans A
  -- go on by what the symbol has at this place
  look : {A : Type 0} → (List ℕ → ℕ → Program Tag Ans A) → Program Tag Ans A
  -- one of two, by a test
  when : {A : Type 0} → Bool → Program Tag Ans A → Program Tag Ans A → Program Tag Ans A
  -- take n bytes
  skip : {A : Type 0} → ℕ → Program Tag Ans A → Program Tag Ans A
  -- go on by the memo; put another in its place; store a node in it, unless an equal one is there
  recall : {A : Type 0} → (Memo → Program Tag Ans A) → Program Tag Ans A
  keep : {A : Type 0} → Memo → Program Tag Ans A → Program Tag Ans A
  store : {A : Type 0} → Store → ℕ → Program Tag Ans A → Program Tag Ans A
  -- open a part and read it, and go on with its answer
  part : {A : Type 0} (tag : Tag) → (Ans tag → Program Tag Ans A) → Program Tag Ans A
  -- run a program that opens no part of its own, and go on with its answer
  sub : {A B : Type 0} → Program Tag Ans B → (B → Program Tag Ans A) → Program Tag Ans A
  -- close a node with a kind, its numbers, and its references
  node : {A : Type 0} → ℕ → List ℕ → List ℕ → (ℕ → Program Tag Ans A) → Program Tag Ans A

-- an answer or a refusal, the state, and what is written meanwhile
pub data Reply (A : Type 0) : Type 0 where
  found : A → Reply A
  refused : Refusal → Reply A

pub record Out (A T : Type 0) : Type 0 where
  pub reply : Reply A
  pub state : State
  pub cells : T

abbrev pub out : {A T : Type 0} → Reply A → State → T → Out A T
out r st t = record { reply = r; state = st; cells = t }

-- go on after an answer; a refusal stands
abbrev pub onward : {A B T : Type 0} → Reply A → State → T → (A → State → T → Out B T) → Out B T
onward (found a) st t f = f a st t
onward (refused w) st t f = out (refused w) st t

abbrev pub and_then : {A B T : Type 0} → Out A T → (A → State → T → Out B T) → Out B T
and_then o f = onward o.reply o.state o.cells f

-- what reads a part, what closes a node, and when two nodes are equal
abbrev pub Part : (Tag : Type 0) → (Tag → Type 0) → Type 0 → Type 0
Part Tag Ans T = (tag : Tag) → State → T → Out (Ans tag) T

abbrev pub Shut : Type 0 → Type 0
Shut T = ℕ → List ℕ → List ℕ → State → T → Out ℕ T

-- of the nodes counted so far
abbrev pub Same : Type 0 → Type 0
Same T = ℕ → T → ℕ → ℕ → Bool

abbrev pub at+ : ℕ → State → State
at+ n st = record { at = st.at + n; used = st.used; deep = st.deep; memo = st.memo }

abbrev pub with : Memo → State → State
with m st = record { at = st.at; used = st.used; deep = st.deep; memo = m }

-- the first ten of each list, none of them twice
abbrev pub any_of : (ℕ → Bool) → List ℕ → Bool
any_of f [] = false
any_of f (n ∷ ns) = pick (f n) true (any_of f ns)

abbrev pub added : (ℕ → ℕ → Bool) → Store → ℕ → Memo → Memo
added same names n m =
    pick (ltb m.names_len 10)
    (pick (any_of (same n) (take m.names_len m.names)) m
    (record { names = set m.names m.names_len n; types = m.types; names_len = m.names_len + 1; types_len = m.types_len }))
    m
added same types n m =
    pick (ltb m.types_len 10)
    (pick (any_of (same n) (take m.types_len m.types)) m
    (record { names = m.names; types = set m.types m.types_len n; names_len = m.names_len; types_len = m.types_len + 1 }))
    m

unfoldable pub run : {Tag : Type 0} {Ans : Tag → Type 0} {A T : Type 0} → List ℕ → Same T → Shut T → Part Tag Ans T → Program Tag Ans A → State → T → Out A T
run s same shut rec (ret a) st t = out (found a) st t
run s same shut rec fail st t = out (refused Syntax) st t
run s same shut rec (look k) st t = run s same shut rec (k s st.at) st t
run s same shut rec (when b p q) st t = pick b (run s same shut rec p st t) (run s same shut rec q st t)
run s same shut rec (skip n p) st t = run s same shut rec p (at+ n st) t
run s same shut rec (recall k) st t = run s same shut rec (k st.memo) st t
run s same shut rec (keep m p) st t = run s same shut rec p (with m st) t
run s same shut rec (store w n p) st t = run s same shut rec p (with (added (same st.used t) w n st.memo) st) t
run s same shut rec (part tag k) st t = and_then (rec tag st t) (λ a st' t'. run s same shut rec (k a) st' t')
run s same shut rec (sub p k) st t = and_then (run s same shut rec p st t) (λ a st' t'. run s same shut rec (k a) st' t')
run s same shut rec (node kd numbers refs k) st t = and_then (shut kd numbers refs st t) (λ n st' t'. run s same shut rec (k n) st' t')
