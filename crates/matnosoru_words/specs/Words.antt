-- The record of an instruction that crosses as one number.
use Rattle.std.specs.Prelude.{ℕ, ◌%◌, List}
use Rattle.std.specs.Prelude.{Ok, Err}
use Rattle.refusals.specs.Answer.{Answer}
use Rattle.octets.specs.Bytes.{le_bytes}
use Rattle.log_kinds.specs.Length.{length_of}

-- its bytes, where its word can be written; else the refusal of the word
abbrev pub instruction_bytes : Answer ℕ → ℕ → Answer (List ℕ)
instruction_bytes (Ok w) n = Ok (le_bytes (length_of (n % 256)) n)
instruction_bytes (Err e) n = Err e
