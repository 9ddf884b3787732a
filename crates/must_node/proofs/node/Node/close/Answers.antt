use Rattle.must_entry.specs.Entries.{entries_of}
use Rattle.must_node.specs.Inner.{inner}
use Rattle.must_node.specs.OrderLaws.{lawful_order, lawful_calls}
use Rattle.must_node.proofs.node.Node.close.Goals as goal

pub returns : goal.returns
returns c = λ range root taken handed stands lawful.
    c.close.ensures (inner root range (entries_of taken)) stands.knows (lawful_order root range taken lawful) (lawful_calls root range taken lawful)
