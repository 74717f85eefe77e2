-- What crosses the C ABI in several places: a profile as two numbers, and the answer of writing bytes into a buffer.
use Rattle.std.specs.Prelude.{ℕ, ◌*◌, ◌%◌, ◌^◌, Result, Ok, Err}
use Rattle.profiles.specs.declared.Profile.{Profile}
use Rattle.profiles.specs.Profile.{profile_of}

-- flags' bits that mean nothing yet are ignored
abbrev pub profile : ℕ → ℕ → Profile
profile flags custom = profile_of (flags % 256) custom

-- so many bytes, or a refusal's number times 2 ^ 32
abbrev pub length_or : Result ℕ ℕ → ℕ
length_or (Ok n) = n
length_or (Err n) = n * 2 ^ 32
