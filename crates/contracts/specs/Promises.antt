-- What a contract promises. The toolchain generates of each function what its contract asks of the arguments (`Asked`) and what it states of the arguments, the
-- answer and what the parameters are at exit (`Post`), as the source of the function has it. Here `κs` are the lifetimes, `args` the arguments, one in the other
-- as (first, (second, (.., _))), and `left` the parameters at exit in the same form.
use contract.Lifetimes.{Lfts}
use Rattle.std.specs.Prelude.{List, ℕ}
use borrow.Fn.Kinds.{ParamKind, ResultKind, Dens, In, Out, res_t, ended_of}
use denote.Triple.Clauses.{AtExit}

-- what the contract of a function with these parameters and this result states gives a relation
abbrev pub Gives : (n : ℕ) (ps : List (ParamKind n)) (r : ResultKind n) → Out n ps r → Out n ps r → Type 0
Gives n ps r post relation =
    (κs : Lfts n) (args : Dens κs ps) (answer : (res_t r κs).Denot) (left : AtExit (ended_of n ps r) κs) → post κs args answer left → relation κs args answer left

-- the contract asks nothing of the caller, and gives the relation
pub record Promises (n : ℕ) (ps : List (ParamKind n)) (r : ResultKind n) (asked : In n ps) (post relation : Out n ps r) : Type 0 where
  pub asks_nothing : (κs : Lfts n) (args : Dens κs ps) → asked κs args
  pub gives : Gives n ps r post relation
