-- What sources and sinks show, and what a put does to it.
use Rattle.std.specs.Prelude.{◌≡◌, ◌⊎◌, ℕ, ◌≤◌, List, Option, Result, Ok, Err}
use Rattle.std.specs.Io.KnownBytes.{Appends}
use Rattle.must_base.specs.Causes.{Rose, AppendsFront}

-- a source: the bytes not yet read, where it tells them, and how often a read failed
pub record SourceView : Type 0 where
  pub left : Option (List ℕ)
  pub faults : ℕ

-- a sink: the bytes that it took, where it tells them, and how often a put failed
pub record SinkView : Type 0 where
  pub held : Option (List ℕ)
  pub faults : ℕ

-- a source with these bytes, where they are told, that wasn't read yet
abbrev pub unread : Option (List ℕ) → SourceView
unread bytes = record { left = bytes; faults = 0 }

-- the whole piece was put, and no put failed
pub record PutsAll (old new : SinkView) (bytes : List ℕ) : Type 0 where
  pub held : Appends old.held new.held bytes
  pub kept : new.faults ≡ old.faults

-- a put failed: a front of the piece was put, and the count rose
pub record PutsFront (old new : SinkView) (bytes : List ℕ) : Type 0 where
  pub held : AppendsFront old.held new.held bytes
  pub later : old.faults ≤ new.faults
  pub rose : Rose old.faults new.faults

-- what the answer of a put says: the whole piece at Ok, a front of it at Err
abbrev pub Puts : {E : Type 0} → SinkView → SinkView → List ℕ → Result (Unit {0}) E → Type 0
Puts old new bytes (Ok u) = PutsAll old new bytes
Puts old new bytes (Err e) = PutsFront old new bytes

-- a piece was put, or a front of it where a put failed
abbrev pub PutsSome : SinkView → SinkView → List ℕ → Type 0
PutsSome old new bytes = PutsAll old new bytes ⊎ PutsFront old new bytes
