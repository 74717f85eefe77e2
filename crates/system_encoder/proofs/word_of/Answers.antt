-- Each arm knows the shape, which is written by its form.
use Rattle.utils.proofs.Prelude.{sym, ap, ◌∙◌, subst, ℕ}
use Rattle.std.proofs.Common.{Ok}
use Rattle.forms.specs.Meaning.{write_of}
use Rattle.system_decoder.specs.Forms.{system}
use Rattle.system_decoder.specs.System.{Low, meaning}
use Rattle.system_encoder.proofs.SystemSteps.{access_word, access_word_lem, fence_word, fence_word_lem}
use Rattle.system_encoder.proofs.word_of.Goals as goal

pub returns-in-Fence : goal.returns-in-Fence
returns-in-Fence c =
    let s = c.in-Fence in
    let l = subst Low s.is c.requires in
    ap (λ (f : ℕ). Ok (fence_word f s.rs1 s.rs2)) c.fence_func7.ensures ∙ fence_word_lem s.rs1 s.rs2 l.0 l.1 s.fence ∙ ap (write_of system meaning) (sym s.is)

pub returns-in-Access : goal.returns-in-Access
returns-in-Access c =
    let s = c.in-Access in
    let l = subst Low s.is c.requires in
    ap (λ (f : ℕ). Ok (access_word s.csr s.src f s.rd)) c.csr_func3.ensures ∙ access_word_lem s.csr s.rd s.src l.0 l.1.0 l.1.1 s.op s.imm
    ∙ ap (write_of system meaning) (sym s.is)
