-- What a call answered that it made. Which outputs make a handle is one line a shape of output.
use Rattle.std.specs.Prelude.{Option, Some, None}
use Rattle.must_call.specs.declared.class.Class.TheVariants as class
use Rattle.must_call.specs.declared.items.MadeComm.{MadeComm}
use Rattle.must_call.specs.declared.field.Output.{Output}
use Rattle.must_call.specs.declared.field.Output.TheVariants as output
use Rattle.must_call.specs.declared.body.Body.{Body}
use Rattle.must_call.specs.Values.{OutputValue, TypedOutput}
use Rattle.must_call.specs.Bodies.{given_of}
use Rattle.must_call.specs.Handles.{ClassedHandle}

-- the handle, and what it stands for
abbrev pub made_handle : (o : Output) → OutputValue o → Option ClassedHandle
made_handle (output.Made c) h = Some (c, h)
made_handle output.MadeComm m = Some (class.Comm, m.made)
made_handle _ _ = None

-- the communicator, with its members
abbrev pub made_comm : (o : Output) → OutputValue o → Option MadeComm
made_comm output.MadeComm m = Some m
made_comm _ _ = None

abbrev pub handle_given : Option TypedOutput → Option ClassedHandle
handle_given None = None
handle_given (Some t) = made_handle t.0 t.1

abbrev pub comm_given : Option TypedOutput → Option MadeComm
comm_given None = None
comm_given (Some t) = made_comm t.0 t.1

-- of a call: none where it answered no such thing
abbrev pub made_of : Body → Option ClassedHandle
made_of b = handle_given (given_of b)

abbrev pub comm_of : Body → Option MadeComm
comm_of b = comm_given (given_of b)
