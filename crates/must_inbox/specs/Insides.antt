-- How a taker and a port stand for their states.
use Rattle.std.specs.Prelude.{◌≡◌, ℕ, ◌≤◌, List, length, Option, Some, None}
use Rattle.must_inbox.specs.declared.inbox.Taker.TheInside as taker
use Rattle.must_inbox.specs.declared.inbox.Port.TheInside as port
use Rattle.must_inbox.specs.Children.{IsOrderly}
use Rattle.must_inbox.specs.Rule.{IsTaking, IsSending, ranges_of, joined_of, got_of, number_of, range_of, sent_of}
use Rattle.must_inbox.specs.States.{TakerState, PortState}

abbrev pub taker_state : taker.Inside → TakerState
taker_state a = let v = a.pass.me.view.client in record { inbox = record { web = a.pass.web; heap = a.pass.heap }; ranges = ranges_of v; joined = joined_of v; got = got_of v }

-- its pass has the taker's view and stands between two steps, and `given` counts the ports
pub record IsTaker (a : taker.Inside) : Type 0 where
  pub taking : IsTaking a.pass.me.view.client
  pub hand : a.pass.me.hand ≡ None
  pub spare : a.pass.me.spare ≡ None
  pub given : a.given ≡ length (ranges_of a.pass.me.view.client)
  pub few : a.given ≤ 64
  pub orderly : IsOrderly (ranges_of a.pass.me.view.client) (got_of a.pass.me.view.client)

abbrev pub port_state : port.Inside → PortState
port_state a = let v = a.pass.me.view.client in record { inbox = record { web = a.pass.web; heap = a.pass.heap }; number = number_of v; range = range_of v; sent = sent_of v }

-- its pass has a port's view and stands between two steps, and the batches go by that view's number
pub record IsPort (a : port.Inside) : Type 0 where
  pub sending : IsSending a.pass.me.view.client
  pub hand : a.pass.me.hand ≡ None
  pub spare : a.pass.me.spare ≡ None
  pub number : a.number ≡ number_of a.pass.me.view.client
