-- The answers of writing a line of a whole log's listing, and the buffer and the state's bytes after it.
use Rattle.std.specs.Prelude.{ℕ, Bool, ◌&&◌, cond, List, ltb, leb, Ok, Err}
use Rattle.refusals.specs.Answer.{Answer}
use Rattle.refusals.specs.declared.Refusal.TheVariants as refusal
use Rattle.profiles.specs.declared.Profile.{Profile}
use Rattle.octets.specs.Bytes.{emitted, emitted_out}
use Rattle.log_reader.specs.Read.{parse}
use Rattle.log_lines.specs.Lines.{bad_line}
use Rattle.log_steps.specs.Lines.{line_def, line_out, line_state}

-- ---- a record's line, where there is a profile to read it under
abbrev pub next_line : Answer Profile → ℕ → List ℕ → ℕ → Answer ℕ
next_line (Ok p) at log room = line_def p at (parse p log) room
next_line (Err why) at log room = Err why

abbrev pub next_line_out : Answer Profile → ℕ → List ℕ → List ℕ → List ℕ
next_line_out (Ok p) at log out = line_out p at (parse p log) out
next_line_out (Err why) at log out = out

abbrev pub next_line_state : Answer Profile → ℕ → List ℕ → ℕ → List ℕ → List ℕ
next_line_state (Ok p) at log room s = line_state p at (parse p log) room s
next_line_state (Err why) at log room s = s

-- ---- the last line of a log with a bad record: a refusal's number is 1 to 255
abbrev pub is_number : ℕ → Bool
is_number n = ltb 0 n && leb n 255

abbrev pub bad_def : ℕ → ℕ → ℕ → Answer ℕ
bad_def n at room = cond (is_number n) (emitted (bad_line n at) room) (Err refusal.Field)

abbrev pub bad_out : ℕ → ℕ → List ℕ → List ℕ
bad_out n at out = cond (is_number n) (emitted_out (bad_line n at) out) out
