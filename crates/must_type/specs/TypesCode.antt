-- A table of types as a list of tokens that gives it back, by which proofs tell tables apart. No contract speaks of it.
use Rattle.std.specs.Prelude.{ℕ, refl, List, Option}
use Rattle.std.specs.Coded.{Coded, code_by, coded_ℕ, coded_list, coded×, coded_option}
use Rattle.must_type.specs.Tree.{TypeTree}
use Rattle.must_type.specs.Table.{Types}
use Rattle.must_type.specs.TreeCode.{tree_code}

abbrev pub types_code : Coded Types
types_code =
    code_by (ℕ × List (Option TypeTree)) (coded× coded_ℕ (coded_list (coded_option tree_code))) (λ t. (t.weight_limit, t.slots)) (λ p. record { weight_limit = p.0; slots = p.1 }) (λ _. refl)
