use Rattle.std.proofs.Common.{◌≡◌, Option, Some, None, rules, sym, subst}
use Rattle.must_node.specs.declared.closed.Closed.{Closed}
use Rattle.must_node.specs.Inner.{inner}
use Rattle.must_entry.specs.Entries.{entries_of}
use Rattle.must_levels.specs.Telling.{Adds}
use Rattle.must_levels.proofs.Adding.{none_adds, some_adds}
use Rattle.must_levels.proofs.results.add_node.Goals as goal

pub returns-in_default-clause-adds : goal.returns-in_default-clause-adds
returns-in_default-clause-adds c = λ range root taken handed stands lawful.
    let none : c.args.below ≡ None = search rules in
    subst (λ (b : Option Closed). Adds b (inner root range (entries_of taken)) (Some c.in_ok-closed.closed)) (sym none)
    (none_adds c.in_ok-closed.closed (inner root range (entries_of taken)) (c.in_ok-closed.ensures range root taken handed stands lawful))

pub returns-clause-adds : goal.returns-clause-adds
returns-clause-adds c = λ range root taken handed stands lawful.
    let is : c.args.below ≡ Some c.in-Some.all = search rules in
    subst (λ (b : Option Closed). Adds b (inner root range (entries_of taken)) (Some c.join.new.self)) (sym is)
    (some_adds c.in-Some.all c.in_ok-closed.closed c.join.new.self (inner root range (entries_of taken)) (c.in_ok-closed.ensures range root taken handed stands lawful) c.in_ok-join.ensures.findings c.in_ok-join.ensures.facts)
