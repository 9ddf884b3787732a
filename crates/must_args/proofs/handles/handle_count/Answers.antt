use Rattle.std.proofs.Common.{◌<◌, ◌^◌, length, subst}
use Rattle.must_call.specs.declared.argument.Argument.{Argument}
use Rattle.must_call.specs.Arguments.{seen}
use Rattle.must_call.specs.Handles.{typed_handles}
use Rattle.must_args.proofs.handles.handle_count.Goals as goal

pub request_count-requires : goal.request_count-requires
request_count-requires c = rw c.items.ensures (subst (λ (a : Argument). length (typed_handles (seen a)) < 2 ^ 32) c.in-Requests.is c.requires)

pub old_count-requires : goal.old_count-requires
old_count-requires c = rw c.items-in-StructBlocks.ensures (subst (λ (a : Argument). length (typed_handles (seen a)) < 2 ^ 32) c.in-StructBlocks.is c.requires)

pub returns-in-Requests : goal.returns-in-Requests
returns-in-Requests c = rw (c.in-Requests.is, ← c.items.ensures) c.request_count.ensures

pub returns-in-StructBlocks : goal.returns-in-StructBlocks
returns-in-StructBlocks c = rw (c.in-StructBlocks.is, ← c.items-in-StructBlocks.ensures) c.old_count.ensures
