-- A refused word has no record; one that is written has the number's own bytes.
use Rattle.utils.proofs.Prelude.{sym, ap, ◌∙◌, subst, ◌≤◌, List, ℕ, length, length-take-le}
use Rattle.std.proofs.lemmas.Result.{err_from_is_err_and}
use Rattle.refusals.specs.Answer.{Answer}
use Rattle.log_writer.specs.Written.{written_def, written_out}
use Rattle.matnosoru_words.proofs.Crossing.{not_put, has_kind, fits, put}
use Rattle.matnosoru_words.proofs.put_instruction.Goals as goal

pub returns-in_err-write-clause-value : goal.returns-in_err-write-clause-value
returns-in_err-write-clause-value c =
    let p = err_from_is_err_and c.from_residual.result c.from_residual.ensures.1 in
    rw (p.1, p.2) (not_put c.args.ctx c.args.n c.in_err-write.ensures c.args.out.now).0

pub returns-in_err-write-clause-out_after : goal.returns-in_err-write-clause-out_after
returns-in_err-write-clause-out_after c = (not_put c.args.ctx c.args.n c.in_err-write.ensures c.args.out.now).1

pub returns-in_err-kind-clause-value : goal.returns-in_err-kind-clause-value
returns-in_err-kind-clause-value c = absurd (has_kind c.args.ctx c.args.n c.in_ok-write.ensures c.in_err-kind.ensures)

pub returns-in_err-kind-clause-out_after : goal.returns-in_err-kind-clause-out_after
returns-in_err-kind-clause-out_after c = absurd (has_kind c.args.ctx c.args.n c.in_ok-write.ensures c.in_err-kind.ensures)

pub slice_bounds-b-end : goal.slice_bounds-b-end
slice_bounds-b-end c =
    let f = fits c.args.ctx c.args.n c.in_ok-write.ensures c.in_ok-kind.ensures c.record_length-len.ensures in
    subst (λ (b : List ℕ). c.record_length-len.result ≤ length b) (sym c.le_bytes-b.ensures) f

pub slice_bounds-emit-end : goal.slice_bounds-emit-end
slice_bounds-emit-end c =
    let f = fits c.args.ctx c.args.n c.in_ok-write.ensures c.in_ok-kind.ensures c.record_length-len.ensures in
    sym (length-take-le _ _ (subst (λ (b : List ℕ). c.record_length-len.result ≤ length b) (sym c.le_bytes-b.ensures) f))

pub returns-clause-value : goal.returns-clause-value
unfolding written_def
returns-clause-value c =
    let w = put c.args.ctx c.args.n c.in_ok-write.ensures c.in_ok-kind.ensures c.record_length-len.ensures c.le_bytes-b.ensures in
    c.emit.ensures.value ∙ ap (λ (k : Answer (List ℕ)). written_def k (length c.args.out.now)) w

pub returns-clause-out_after : goal.returns-clause-out_after
unfolding written_out
returns-clause-out_after c =
    let w = put c.args.ctx c.args.n c.in_ok-write.ensures c.in_ok-kind.ensures c.record_length-len.ensures c.le_bytes-b.ensures in
    c.emit.ensures.out_after ∙ ap (λ (k : Answer (List ℕ)). written_out k c.args.out.now) w
