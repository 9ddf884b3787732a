use Rattle.must_begin.proofs.wave.is_sound.Goals as goal

pub returns-in-Handle : goal.returns-in-Handle
returns-in-Handle c = λ trees has. rw c.in-Handle.is (c.is_sound_handle.ensures trees has)
