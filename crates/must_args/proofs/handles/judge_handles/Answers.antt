use Rattle.std.proofs.Common.{◌+◌, ◌<◌, ◌^◌, length, subst}
use Rattle.std.proofs.lemmas.List.{append-nil}
use Rattle.must_call.specs.declared.argument.Argument.{Argument}
use Rattle.must_call.specs.Arguments.{seen}
use Rattle.must_call.specs.Handles.{typed_handles}
use Rattle.must_args.proofs.handles.judge_handles.Goals as goal

pub judge_requests-requires : goal.judge_requests-requires
judge_requests-requires g c = rw c.items.ensures (subst (λ (a : Argument). c.args.number + length (typed_handles (seen a)) < 2 ^ 32) c.in-Requests.is c.requires)

pub judge_olds-requires : goal.judge_olds-requires
judge_olds-requires g c = rw c.items-in-StructBlocks.ensures (subst (λ (a : Argument). c.args.number + length (typed_handles (seen a)) < 2 ^ 32) c.in-StructBlocks.is c.requires)

pub returns-in-Handle : goal.returns-in-Handle
returns-in-Handle g c = rw (c.in-Handle.is, append-nil, ← c.is_of_buffer-of_buffer.ensures, ← c.class.ensures) c.judge_handle.ensures

pub returns-in-Requests : goal.returns-in-Requests
returns-in-Requests g c = rw (c.in-Requests.is, ← c.items.ensures) c.judge_requests.ensures

pub returns-in-StructBlocks : goal.returns-in-StructBlocks
returns-in-StructBlocks g c = rw (c.in-StructBlocks.is, ← c.items-in-StructBlocks.ensures) c.judge_olds.ensures
