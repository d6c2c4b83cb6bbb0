use Rattle.std.proofs.Common.{◌*◌, length, ◌∙◌}
use Rattle.std.proofs.lemmas.Bool.{le-ltb}
use Rattle.forms.specs.Buffers.{rows_of}
use Rattle.schema.proofs.Laws.{below_laws}
use Rattle.schema.proofs.Worked.{worked_cases}
use Rattle.verdicts.specs.Facts.{bounded_of, determined_of}
use Rattle.verdicts.proofs.Verdicts.{verdicts_largest, verdicts_below, verdicts_included, verdicts_published, verdicts_witness, verdicts_reflexive, verdicts_transitive}
use Rattle.verdicts.proofs.prepared.Prepared.verdicts.Goals as goal

pub returns : goal.returns
returns c =
    let t = c.args.self.now in
    let rows = rows_of t.table in
    let bounded = bounded_of t in
    let determined = determined_of t in
    let all = c.square-pairs.result in
    let has = c.square-pairs.ensures in
    let words = c.narrow.new.pairs in
    let is = c.narrow.ensures.largest in
    record {
      below = verdicts_below rows bounded determined all words has is;
      largest = verdicts_largest rows bounded determined all words has is;
      included = verdicts_included rows bounded determined all words has is;
      published = verdicts_published rows bounded determined all words has is;
      witness = verdicts_witness rows bounded determined all words has is;
      reflexive = verdicts_reflexive rows bounded determined all words has is;
      transitive = verdicts_transitive rows bounded determined all words has is;
      rest = λ k h. c.narrow.ensures.rest k h ∙ has k ∙ le-ltb k (length rows * length rows) h;
      laws = below_laws;
      worked = worked_cases;
    }
