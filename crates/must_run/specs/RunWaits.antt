-- What the calls of a run wait for, and the facts that tell it (docs/NODES.md, "Needs").
use Rattle.std.specs.Prelude.{Bool, true, false, List, ◌++◌, map}
use Rattle.must_p2p.specs.declared.item.MsgItem.{MsgItem}
use Rattle.must_p2p.specs.Items.{number}
use Rattle.must_coll.specs.declared.item.WaveItem.{WaveItem}
use Rattle.must_entry.specs.Entries.{Waits}
use Rattle.must_wait.specs.Needs.{Rows}
use Rattle.must_node.specs.declared.fact.Fact.{Fact}
use Rattle.must_node.specs.declared.fact.Fact.TheVariants as fact
use Rattle.must_node.specs.Facts.{message_fact, call_fact}
use Rattle.must_node.specs.RunNeeds.{run_needs}
use Rattle.must_rules.specs.Run.{Run, Mode, Strict, Buffered, size_of}
use Rattle.must_run.specs.RunMessages.{needs_in}
use Rattle.must_run.specs.RunGiven.{Given}

abbrev pub need_fact : Waits → Fact
need_fact w = fact.Need w.place w.ways

-- what the replay asks of messages, of calls of waves, and of needs
abbrev pub facts_with : List MsgItem → List WaveItem → List Waits → List Fact
facts_with messages calls needs = map (λ x. message_fact (number messages x) x) messages ++ (map call_fact calls ++ map need_fact needs)

-- a standard send waits for its receive
abbrev pub is_strict : Mode → Bool
is_strict Strict = true
is_strict Buffered = false

-- what each call of a run waits for
abbrev pub waits_in : Run → Mode → Given → Rows
waits_in run mode given = run_needs (is_strict mode) (facts_with given.messages given.calls (needs_in run)) (size_of run)
