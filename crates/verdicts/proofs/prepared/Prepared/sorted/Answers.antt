use Rattle.forms.specs.Buffers.{rows_of}
use Rattle.forms.specs.Laws.{buffer_laws}
use Rattle.verdicts.proofs.Preparing.{made_ready}
use Rattle.verdicts.proofs.prepared.Prepared.sorted.Goals as goal

pub invariant_of-result : goal.invariant_of-result
invariant_of-result c =
    let table = c.args.table in
    record {
      ready = ∣ made_ready (rows_of table) (buffer_laws table).few c.args.analysis.now c.requires.analyzed c.requires.admitted
          c.gather-voids.result c.gather-channels.result c.gather-elements.result c.gather_labels-labels.result
          c.gather-voids.ensures c.gather-channels.ensures c.gather-elements.ensures c.gather_labels-labels.ensures ∣₁;
    }
