-- A reader from its fields.
use Rattle.std.specs.Prelude.{◌≡◌, ℕ, List, [], Option, Some, None}
use Rattle.must_format.specs.declared.header.Header.{Header}
use Rattle.must_codec.specs.declared.stream.State.{State}
use Rattle.must_codec.specs.declared.stream.State.TheVariants as state
use Rattle.must_codec.specs.Reader.{Phase, Fresh, Before, Ended, Failed}
use Rattle.must_format.specs.declared.expect.Expect.{Expect}
use Rattle.must_codec.specs.Views.{IsExpect, IsReady}

abbrev pub phase_of : State → Phase
phase_of state.Fresh = Fresh
phase_of (state.Running header place) = Before place
phase_of (state.Ended header) = Ended
phase_of (state.Failed header fault) = Failed fault

abbrev pub header_in : State → Option Header
header_in state.Fresh = None
header_in (state.Running header place) = Some header
header_in (state.Ended header) = Some header
header_in (state.Failed header fault) = header

-- before its first read a reader took nothing; later its place and its bytes are within the limits
abbrev pub HoldsReady : State → Option Expect → List ℕ → Type 0
HoldsReady state.Fresh e window = (window ≡ []) × IsExpect e
HoldsReady (state.Running header place) e window = IsReady header place window
HoldsReady (state.Ended header) e window = Unit {0}
HoldsReady (state.Failed header fault) e window = Unit {0}
