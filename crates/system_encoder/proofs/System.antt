-- The table of SYSTEM words is sound and its shapes are faithful to it; what is read is low, and what may be written is as it was, low, and has
-- a word. Assumes nothing.
use Rattle.utils.proofs.Prelude.{◌≡◌, refl, sym, ap, ◌∙◌, subst, Bool, true, false, List, [], ◌∷◌, ℕ, zero, suc, ◌^◌, ◌<◌, ◌≤◌, arith, ltb, get_or, lt-ltb}
use Rattle.std.proofs.Common.{Some, Ok, Err}
use Rattle.refusals.specs.Answer.{Answer, done}
use Rattle.refusals.specs.declared.Refusal.TheVariants as refusal
use Rattle.registers.specs.Numbers.{are_valid}
use Rattle.registers.proofs.Numbers.{valid}
use Rattle.profiles.specs.declared.Profile.{Profile}
use Rattle.csrs.specs.Gates.{available}
use Rattle.csrs.proofs.Laws.{available_lt}
use Rattle.forms.specs.Layout.{Layout, Operand, imm, rd, rs1, rs2, funct, csr, all}
use Rattle.forms.specs.Sound.{sound}
use Rattle.forms.specs.Meaning.{Agrees, Every, Faithful, read_of, write_of}
use Rattle.utils.proofs.Tests.{on}
use Rattle.forms.proofs.Accepts.{room, roomy, made_of}
use Rattle.refusals.proofs.Answers.{no_value}
use Rattle.forms.proofs.Demand3
use Rattle.system_decoder.specs.declared.CsrOp.{TheVariants.Write, TheVariants.Set, TheVariants.Clear}
use Rattle.system_decoder.specs.declared.Fence.{TheVariants.Vma, TheVariants.Vvma, TheVariants.Gvma}
use Rattle.system_decoder.specs.Forms.{system, accesses}
use Rattle.system_decoder.specs.declared.Shape.{Shape}
use Rattle.system_decoder.specs.declared.Shape.TheVariants.{Wfi as wfi, Mret as mret, Sret as sret, Fence as fence, Access as access}
use Rattle.system_decoder.specs.System.{Low, shapes, operands_of, meaning, always, barred_def, access_at, shape_at}
use Rattle.system_encoder.proofs.SystemSteps.{access_word_lem, fence_word_lem}
use Rattle.system_encoder.specs.System.{reached, checked_def, write_shape}

-- ---- the table of shapes
pub system_sound : sound system ≡ true
system_sound = refl

-- a form's operands make a shape that has these operands: each field of `layouts` is `refl`
pub faithful : Faithful system meaning
faithful = record { layouts = layouts; code_ops = code_ops; make_ops = λ s _ _. make_ops s }
  where
    layouts : Every (λ L. (w : ℕ) → Agrees meaning L w) system
    layouts = search depth 20

    code_ops : (s : Shape) (n : ℕ) → Some 0 ≡ Some n → n ≡ operands_of s imm
    code_ops wfi n e = cc
    code_ops mret n e = cc
    code_ops sret n e = cc
    code_ops (fence f a b) n e = cc
    code_ops (access o m a d x) n e = cc

    make_ops : (s : Shape) → meaning.make (operands_of s) ≡ s
    make_ops wfi = refl
    make_ops mret = refl
    make_ops sret = refl
    make_ops (fence Vma a b) = refl
    make_ops (fence Vvma a b) = refl
    make_ops (fence Gvma a b) = refl
    make_ops (access Write false a d x) = refl
    make_ops (access Set false a d x) = refl
    make_ops (access Clear false a d x) = refl
    make_ops (access Write true a d x) = refl
    make_ops (access Set true a d x) = refl
    make_ops (access Clear true a d x) = refl

-- ---- what is read is low
abbrev EachShape : (Shape → Type 0) → List Shape → Type 0
EachShape P [] = Unit {0}
EachShape P (x ∷ xs) = P x × EachShape P xs

get_d_each : (P : Shape → Type 0) (xs : List Shape) (n : ℕ) (d : Shape) → EachShape P xs → P d → P (get_or xs n d)
get_d_each P [] n d h p = p
get_d_each P (x ∷ xs) zero d h p = h.0
get_d_each P (x ∷ xs) (suc n) d h p = get_d_each P xs n d h.1 p

shapes_low : (env : Operand → ℕ) → env csr < 2 ^ 12 → env rd ≤ 31 → env rs1 ≤ 31 → env rs2 ≤ 31 → Low (meaning.make env)
shapes_low env c d a b =
    let f : (env rs1 ≤ 31) × (env rs2 ≤ 31) = (a, b) in
    let x : (env csr < 2 ^ 12) × ((env rd ≤ 31) × (env rs1 ≤ 31)) = (c, (d, a)) in
    get_d_each Low (shapes env) (env funct) wfi (tt, (tt, (tt, (f, (f, (f, (x, (x, (x, (x, (x, (x, tt)))))))))))) tt

pub read_low : (T : List Layout) → sound T ≡ true → all (roomy room) T ≡ true → (w : ℕ) (s : Shape) → read_of T meaning w ≡ Ok s → Low s
read_low T ok r w s e =
    let m = made_of T meaning room ok r w s e in
    subst Low m.same (shapes_low m.env (m.low csr) (omega (arith, m.low rd)) (omega (arith, m.low rs1)) (omega (arith, m.low rs2)))

pub shape_low : (w : ℕ) (s : Shape) → shape_at w ≡ Ok s → Low s
unfolding shape_at access_at
shape_low w s = on (λ (k : Answer Shape). k ≡ Ok s → Low s) (ltb w (2 ^ 32)) (λ _. read_low system refl refl w s) (λ _. read_low accesses refl refl w s)

-- ---- what can be written is as it was, and low, and has a word
pub checked_is : (p : Profile) (s t : Shape) → checked_def p s ≡ Ok t → (s ≡ t) × Low t
checked_is p wfi t = λ e. let z : wfi ≡ t = cc in (z, subst Low z tt)
checked_is p mret t = λ e. let z : mret ≡ t = cc in (z, subst Low z tt)
checked_is p sret t = λ e. let z : sret ≡ t = cc in (z, subst Low z tt)
checked_is p (fence f a b) t =
    on (λ (k : Answer Shape). k ≡ Ok t → (fence f a b ≡ t) × Low t) (are_valid a b)
    (λ q e. let z : fence f a b ≡ t = cc in (z, subst Low z (valid a b q))) (λ _ e. no_value refusal.Register t e)
checked_is p (access o m a d x) t =
    on (λ (k : Answer Shape). k ≡ Ok t → (access o m a d x ≡ t) × Low t) (are_valid d x)
    (λ q. let l = valid d x q in go l.0 l.1 (available p a) refl (barred_def a (always o) x)) (λ _ e. no_value refusal.Register t e)
  where
    go : d ≤ 31 → x ≤ 31 → (k : Bool) → available p a ≡ k → (b : Bool) → reached k b (access o m a d x) ≡ Ok t → (access o m a d x ≡ t) × Low t
    go g h true q true e = no_value refusal.ReadOnly t e
    go g h true q false e = let z : access o m a d x ≡ t = cc in (z, subst Low z (available_lt p a q, (g, h)))
    go g h false q b e = no_value refusal.Csr t e

pub not_refused : (p : Profile) (s : Shape) → done (checked_def p s) ≡ Ok tt → (checked_def p s ≡ Ok s) × Low s
not_refused p s = go (checked_def p s) refl
  where
    go : (k : Answer Shape) → checked_def p s ≡ k → done k ≡ Ok tt → (checked_def p s ≡ Ok s) × Low s
    go (Ok t) e h = let c = checked_is p s t e in (e ∙ ap Ok (sym c.0), subst Low (sym c.0) c.1)
    go (Err n) e h = no_value n _ h

low_word : (s : Shape) → Low s → (w : ℕ) × (write_of system meaning s ≡ Ok w)
low_word wfi l = (_, refl)
low_word mret l = (_, refl)
low_word sret l = (_, refl)
low_word (fence f a b) l = (_, sym (fence_word_lem a b l.0 l.1 f))
low_word (access o m a d x) l = (_, sym (access_word_lem a d x l.0 l.1.0 l.1.1 o m))

pub checked_word : (p : Profile) (s t : Shape) → checked_def p s ≡ Ok t → (w : ℕ) × ((write_shape (Ok t) ≡ Ok w) × (w < 2 ^ 32))
checked_word p s t e = let k = low_word t (checked_is p s t e).1 in (k.0, (k.1, (Demand3.write_then_read system meaning system_sound faithful t k.0 k.1).0))

-- ---- a word below 2^32
pub short_word : (w : ℕ) → w < 2 ^ 32 → shape_at w ≡ read_of system meaning w
unfolding shape_at
short_word w h = rw (lt-ltb w (2 ^ 32) h)
