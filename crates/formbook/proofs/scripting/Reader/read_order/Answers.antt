use Rattle.std.proofs.Common.{◌≡◌, length, inr, sym, ap, ◌∙◌}
use Rattle.std.proofs.lemmas.Result.{err_from_is_err_and}
use lib.ListN.{length-replicate}
use Rattle.documents.specs.Limits.{max_nodes}
use Rattle.documents.specs.declared.nodes.Node.TheVariants.{Void}
use Rattle.formbook.proofs.scripting.Reader.read_order.Goals as goal

pub returns-in_err-count-clause-misses : goal.returns-in_err-count-clause-misses
returns-in_err-count-clause-misses c =
    let size : length c.deref_mut.result.now ≡ max_nodes = ap length (c.deref_mut.ensures.value ∙ c.in_ok-nodes.ensures) ∙ length-replicate max_nodes Void in
    let (o, one, only) = c.in_err-count.ensures.laws.0 max_nodes c.args.text.now in
    let refused = rw (size, c.as_bytes.ensures.value) at c.in_err-count.ensures.read.0 in
    let (e, is, why) = err_from_is_err_and c.from_residual-in_err-count.result c.from_residual-in_err-count.ensures.1 in
    rw is (inr (λ d reads. let clash = only _ refused ∙ sym (only _ reads) in cc))
