use Rattle.std.proofs.Common.{refl, sym, ◌∙◌}
use Rattle.documents.proofs.Building.{list_reference, list_more, list_last, item_hollow}
use Rattle.documents.proofs.reader.+item_list.Goals as goal

pub item-returns-in-Some-clause-builds : goal.item-returns-in-Some-clause-builds
item-returns-in-Some-clause-builds t c =
    item_hollow c.args.text.now c.number-label.result.0 c.number-label.result.1.now c.number-label.ensures.reads c.args.nodes.now c.args.used c.in-Some.shut.now _ (sym c.behind-start.ensures ∙ c.in-Some.ensures) (refl, refl, refl)

pub list-returns-in-Some-clause-builds : goal.list-returns-in-Some-clause-builds
list-returns-in-Some-clause-builds t c =
    list_reference c.args.text.now c.in-Some.rest.now c.args.nodes.now c.put.new.nodes c.args.used c.number-row.result.0 c.number-row.result.1.now _ c.in-Some.ensures c.number-row.ensures.reads c.put.ensures refl refl refl

pub list-returns-in-Some-after-clause-builds : goal.list-returns-in-Some-after-clause-builds
list-returns-in-Some-after-clause-builds t c =
    list_more c.args.text.now c.args.used c.item-label.result.0 c.args.nodes.now c.item-label.new.nodes c.list-last.new.nodes c.close.new.nodes c.item-label.result.1 c.list-last.result c.close.result
    c.in_default.ensures c.item-label.ensures.builds c.close.ensures.wrote c.close.ensures.reached c.in-Some-after.more.now c.in-Some-after.ensures c.list-last.ensures.builds

pub list-returns-in-None-clause-builds : goal.list-returns-in-None-clause-builds
list-returns-in-None-clause-builds t c =
    list_last c.args.text.now c.args.used c.item-label.result.0 c.args.nodes.now c.item-label.new.nodes c.item-label.new.nodes c.close-in-None.new.nodes c.item-label.result.1 (record { rest = c.item-label.result.1.rest; used = c.item-label.result.1.used; root = 0 }) c.close-in-None.result
    c.in_default.ensures c.item-label.ensures.builds c.close-in-None.ensures.wrote c.close-in-None.ensures.reached c.in-None.ensures refl (refl, refl, refl)
