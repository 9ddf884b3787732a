-- The buffers, the messages and the needs of a rank as data, by which proofs tell them apart. No contract speaks of it.
use Rattle.std.specs.Coded.{Coded}
use Rattle.must_parts.specs.declared.buffers.Buffers.{Buffers}
use Rattle.must_parts.specs.contracts.buffers.Buffers as buffers
use Rattle.must_begin.specs.declared.requests.Requests.{Requests}
use Rattle.must_begin.specs.contracts.requests.Requests as requests
use Rattle.must_hold.specs.declared.messages.Messages.{Messages}
use Rattle.must_hold.specs.contracts.messages.Messages as messages
use Rattle.must_needs.specs.declared.needs.Needs.{Needs}
use Rattle.must_needs.specs.contracts.needs.Needs as needs

abbrev pub buffers_code : Coded Buffers
buffers_code = buffers.the_row.coded

abbrev pub requests_code : Coded Requests
requests_code = requests.the_row.coded

abbrev pub messages_code : Coded Messages
messages_code = messages.the_row.coded

abbrev pub needs_code : Coded Needs
needs_code = needs.the_row.coded
