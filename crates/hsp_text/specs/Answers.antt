-- What a call answers, against what the definitions give: one vocabulary for every kind of fault.
--
-- A definition gives a value or a fault. A call gives the same, seen by a view that leaves out where things lie in
-- memory, or reports that memory ran out, which is a fault of its own kind, here called `memory`.
use Rattle.std.specs.Prelude.{◌≡◌, ◌⊎◌, Option, Some, None, Result, Ok, Err}

-- ---- steps

-- the second step with what the first one gave, or the fault of the first
infixl 10 ◌>>=◌
abbrev pub ◌>>=◌ : {A B E : Type 0} → Result A E → (A → Result B E) → Result B E
(Ok x) >>= f = f x
(Err e) >>= f = Err e

-- what there is, or the fault where there is nothing
abbrev pub or_fault : {A E : Type 0} → E → Option A → Result A E
or_fault fault None = Err fault
or_fault fault (Some x) = Ok x

-- a part's answer in the terms of the whole
abbrev pub fault_as : {A E F : Type 0} → (E → F) → Result A E → Result A F
fault_as part (Ok x) = Ok x
fault_as part (Err e) = Err (part e)

-- what follows a step: the next one with what it gave, or its fault
abbrev pub Follows : {A B E : Type 0} → Result A E → (A → Result B E → Type 0) → Result B E → Type 0
Follows (Ok x) Next answer = Next x answer
Follows (Err e) Next answer = answer ≡ Err e

-- one step, and then the next, as relations
abbrev pub Then : {A B E : Type 0} → (Result A E → Type 0) → (A → Result B E → Type 0) → Result B E → Type 0
Then {A} {B} {E} First Next answer = (first : Result A E) × First first × Follows first Next answer

-- ---- answers

-- the answer, seen by view, is what is given
abbrev pub Gives : {X Y E : Type 0} → (X → Y) → Result X E → Result Y E → Type 0
Gives view (Ok x) given = given ≡ Ok (view x)
Gives view (Err e) given = given ≡ Err e

-- the same, unless memory ran out
abbrev pub GivesUnless : {X Y E : Type 0} → E → (X → Y) → Result X E → Result Y E → Type 0
GivesUnless memory view (Ok x) given = given ≡ Ok (view x)
GivesUnless memory view (Err e) given = (e ≡ memory) ⊎ (given ≡ Err e)

-- the answer, seen by view, is one that the relation has, unless memory ran out
abbrev pub Stands : {X Y E : Type 0} → E → (X → Y) → (Result Y E → Type 0) → Result X E → Type 0
Stands memory view Is (Ok x) = Is (Ok (view x))
Stands memory view Is (Err e) = (e ≡ memory) ⊎ Is (Err e)
