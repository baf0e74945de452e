-- The version of the exported functions. Assumes nothing.
use Rattle.std.specs.Prelude.{ℕ}

-- one more with each change of what they take or answer
abbrev pub face_version : ℕ
face_version = 14
