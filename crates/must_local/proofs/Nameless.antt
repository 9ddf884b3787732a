-- Calls that name no communicator.
use Rattle.std.proofs.Common.{◌≡◌, None, refl}
use Rattle.must_call.specs.declared.frame.Frame.{Frame}
use Rattle.must_call.specs.declared.frame.Frame.TheVariants as frame
use Rattle.must_call.specs.declared.finish.Finish.{Finish}
use Rattle.must_call.specs.declared.finish.Finish.TheVariants as finish
use Rattle.must_call.specs.declared.derive.Derive.{Derive}
use Rattle.must_call.specs.declared.derive.Derive.TheVariants as derive
use Rattle.must_call.specs.declared.body.Body.TheVariants as body
use Rattle.must_rules.specs.Communicators.{comm_named}

pub no_frame_comm : (x : Frame) → None ≡ comm_named (body.Frame x)
no_frame_comm frame.Init = refl
no_frame_comm frame.Finalize = refl

pub no_finish_comm : (x : Finish) → None ≡ comm_named (body.Finish x)
no_finish_comm (finish.Wait a b) = refl
no_finish_comm (finish.Waitall a b) = refl
no_finish_comm (finish.Waitany a b) = refl
no_finish_comm (finish.Waitsome a b) = refl
no_finish_comm (finish.Test a b) = refl
no_finish_comm (finish.Testall a b) = refl
no_finish_comm (finish.Testany a b) = refl
no_finish_comm (finish.Testsome a b) = refl
no_finish_comm (finish.RequestFree a) = refl
no_finish_comm (finish.Cancel a) = refl

pub no_derive_comm : (x : Derive) → None ≡ comm_named (body.Derive x)
no_derive_comm (derive.TypeContiguous a b c) = refl
no_derive_comm (derive.TypeVector a b c d e) = refl
no_derive_comm (derive.TypeHvector a b c d e) = refl
no_derive_comm (derive.TypeIndexed a b c) = refl
no_derive_comm (derive.TypeHindexed a b c) = refl
no_derive_comm (derive.TypeIndexedBlock a b c d) = refl
no_derive_comm (derive.TypeHindexedBlock a b c d) = refl
no_derive_comm (derive.TypeStruct a b) = refl
no_derive_comm (derive.TypeDup a b) = refl
no_derive_comm (derive.TypeResized a b c d) = refl
no_derive_comm (derive.TypeSubarray a b c d) = refl
no_derive_comm (derive.TypeCommit a) = refl
no_derive_comm (derive.TypeFree a) = refl
