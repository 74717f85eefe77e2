-- What a SYSTEM word is by its fields alone, and which of that a profile allows: document 01's "Reading a SYSTEM word", but for the typed
-- instruction.
use Rattle.std.specs.Prelude.{Bool, true, false, ◌&&◌, ◌||◌, not, cond, ◌≡◌, List, [], ◌∷◌, ℕ, ◌+◌, ◌*◌, ◌^◌, ◌≤◌, ◌<◌, eqb, ltb, get_or}
use Rattle.std.specs.Prelude.{Some, Result, Ok, Err}
use Rattle.refusals.specs.Answer.{Answer}
use Rattle.refusals.specs.declared.Refusal.TheVariants as refusal
use Rattle.utils.specs.Field.{fld}
use Rattle.profiles.specs.declared.Profile.{Profile}
use Rattle.csrs.specs.Gates.{available}
use Rattle.forms.specs.Layout.{Operand, imm, rd, rs1, rs2, funct, csr, short}
use Rattle.forms.specs.Meaning.{Meaning, read_of, bit_of}
use Rattle.system_decoder.specs.Forms.{system, accesses}
use Rattle.system_decoder.specs.declared.CsrOp.{CsrOp}
use Rattle.system_decoder.specs.declared.CsrOp.TheVariants.{Write, Set, Clear}
use Rattle.system_decoder.specs.declared.Fence.{Fence}
use Rattle.system_decoder.specs.declared.Fence.TheVariants.{Vma, Vvma, Gvma}
use Rattle.system_decoder.specs.declared.UnknownCode.{UnknownCode}
use Rattle.system_decoder.specs.declared.Shape.{Shape}
use Rattle.system_decoder.specs.declared.Shape.TheVariants.{Wfi as wfi, Mret as mret, Sret as sret, Fence as fence, Access as access}

-- ---- a word by its fields alone: no profile, and an address where an instruction has a register
-- (the code's `Shape`; an access says whether it is immediate, the address, rd, and rs1 or uimm)
-- funct3's low two bits, which are also the log's operation codes
abbrev pub op_code : CsrOp → ℕ
op_code Write = 1
op_code Set = 2
op_code Clear = 3

-- and from a code to what is made of its operation; x where no operation has the code
abbrev pub by_op : {X : Type 0} → (CsrOp → X) → X → ℕ → X
by_op f x o = cond (eqb o (op_code Write)) (f Write) (cond (eqb o (op_code Set)) (f Set) (cond (eqb o (op_code Clear)) (f Clear) x))

-- the operation of a code, or that no operation has it
abbrev pub op_from : ℕ → Result CsrOp UnknownCode
op_from o = by_op Ok (Err (record { 0 = o })) o

abbrev pub IsOpFrom : ℕ → Result CsrOp UnknownCode → Type 0
IsOpFrom o r = r ≡ op_from o

-- bits 14:12 of a CSR form, as the six forms of the table have them; the third chooses immediate
abbrev pub funct3 : CsrOp → Bool → ℕ
funct3 o m = op_code o + 4 * bit_of m

-- the log's codes of the fences
abbrev pub fence_code : Fence → ℕ
fence_code Vma = 0
fence_code Vvma = 1
fence_code Gvma = 2

abbrev pub by_fence : {X : Type 0} → (Fence → X) → X → ℕ → X
by_fence f x c = cond (eqb c (fence_code Vma)) (f Vma) (cond (eqb c (fence_code Vvma)) (f Vvma) (cond (eqb c (fence_code Gvma)) (f Gvma) x))

-- the fence of a code, or that no fence has it
abbrev pub fence_from : ℕ → Result Fence UnknownCode
fence_from c = by_fence Ok (Err (record { 0 = c })) c

abbrev pub IsFenceFrom : ℕ → Result Fence UnknownCode → Type 0
IsFenceFrom c r = r ≡ fence_from c

-- the shapes of a table's operands, in the order of its forms
abbrev pub shapes : (Operand → ℕ) → List Shape
shapes env =
    wfi
    ∷ mret
    ∷ sret
    ∷ fence Vma (env rs1) (env rs2)
    ∷ fence Vvma (env rs1) (env rs2)
    ∷ fence Gvma (env rs1) (env rs2)
    ∷ access Write false (env csr) (env rd) (env rs1)
    ∷ access Set false (env csr) (env rd) (env rs1)
    ∷ access Clear false (env csr) (env rd) (env rs1)
    ∷ access Write true (env csr) (env rd) (env rs1)
    ∷ access Set true (env csr) (env rd) (env rs1)
    ∷ access Clear true (env csr) (env rd) (env rs1)
    ∷ []

abbrev pub form_number : Shape → ℕ
form_number wfi = 0
form_number mret = 1
form_number sret = 2
form_number (fence f a b) = 3 + fence_code f
form_number (access o m a d x) = 5 + op_code o + 3 * bit_of m

abbrev pub operands : ℕ → ℕ → ℕ → ℕ → ℕ → Operand → ℕ
operands n d a b c imm = 0
operands n d a b c rd = d
operands n d a b c rs1 = a
operands n d a b c rs2 = b
operands n d a b c funct = n
operands n d a b c csr = c
operands n d a b c short = 0

abbrev pub operands_of : Shape → Operand → ℕ
operands_of wfi = operands (form_number wfi) 0 0 0 0
operands_of mret = operands (form_number mret) 0 0 0 0
operands_of sret = operands (form_number sret) 0 0 0 0
operands_of (fence f a b) = operands (form_number (fence f a b)) 0 a b 0
operands_of (access o m a d x) = operands (form_number (access o m a d x)) d x 0 a

-- a word that has no form is refused with 1, `Unknown`; a shape that has none has a register above 31
abbrev pub meaning : Meaning Shape
meaning = record { make = λ env. get_or (shapes env) (env funct) wfi; ops = operands_of; code = λ s. Some 0; is_short = λ s. false; reading_refusal = λ w. refusal.Unknown; writing_refusal = λ s. refusal.Register }

-- CSR forms ignore bits above 31
unfoldable pub access_at : ℕ → Answer Shape
access_at w = read_of accesses meaning w

-- and WFI, MRET, SRET and the fences are whole words
unfoldable pub shape_at : ℕ → Answer Shape
shape_at w = cond (ltb w (2 ^ 32)) (read_of system meaning w) (access_at w)

-- registers and uimm below 32 and an address below 4096, as in every word
abbrev pub Low : Shape → Type 0
Low wfi = Unit {0}
Low mret = Unit {0}
Low sret = Unit {0}
Low (fence f a b) = (a ≤ 31) × (b ≤ 31)
Low (access o m a d x) = (a < 2 ^ 12) × ((d ≤ 31) × (x ≤ 31))

-- where an access that is read has its fields in the word: whoever packs it anew may take them from there
abbrev pub FieldsOf : ℕ → Shape → Type 0
FieldsOf w wfi = Unit {0}
FieldsOf w mret = Unit {0}
FieldsOf w sret = Unit {0}
FieldsOf w (fence f a b) = Unit {0}
FieldsOf w (access o m a d x) = (fld w 12 2 ≡ op_code o) × ((fld w 14 1 ≡ bit_of m) × ((fld w 20 12 ≡ a) × ((fld w 7 5 ≡ d) × (fld w 15 5 ≡ x))))

abbrev pub FieldsIn : ℕ → Answer Shape → Type 0
FieldsIn w (Ok s) = FieldsOf w s
FieldsIn w (Err n) = Unit {0}

-- ---- which accesses write, and which registers may not be written
-- write always writes; set and clear write when the rs1 field is not 0
abbrev pub always : CsrOp → Bool
always Write = true
always Set = false
always Clear = false

-- address bits 11:10 both one
abbrev pub read_only : ℕ → Bool
read_only a = eqb (fld a 10 2) 3

-- a write to a read-only register
abbrev pub barred_def : ℕ → Bool → ℕ → Bool
barred_def a always x = read_only a && (always || not (eqb x 0))

-- ---- what a profile makes of a shape
-- whether it makes an instruction of it
abbrev pub legal_def : Profile → Shape → Bool
legal_def p wfi = true
legal_def p mret = true
legal_def p sret = true
legal_def p (fence f a b) = true
legal_def p (access o m a d x) = not (barred_def a (always o) x) && available p a
