use Rattle.std.proofs.Common.{⊎_elim}
use Rattle.documents.proofs.Shapes.{following_within, look_void, look_address, look_single, look_then_address, look_then_element}
use Rattle.documents.proofs.writer.Table.look.Goals as goal

pub bounds-in-Element : goal.bounds-in-Element
bounds-in-Element c = following_within c.args.self.now.nodes.now c.args.k c.args.self.now.sound c.requires c.in-Element.label c.in-Element.inside c.in-Element.following c.in-Element.is

pub returns-in-Void : goal.returns-in-Void
returns-in-Void c = look_void c.args.self.now.nodes.now c.args.k c.args.self.now.sound c.requires c.in-Void.is

pub returns-in-Reference : goal.returns-in-Reference
returns-in-Reference c = look_address c.args.self.now.nodes.now c.args.k c.args.self.now.sound c.requires c.in-Reference.row c.in-Reference.is

pub returns-in-Void-nodes : goal.returns-in-Void-nodes
returns-in-Void-nodes c = look_single c.args.self.now.nodes.now c.args.k c.args.self.now.sound c.requires c.in-Element.label c.in-Element.inside c.in-Element.following c.in-Element.is c.in-Void-nodes.is

pub returns-in-Reference-nodes : goal.returns-in-Reference-nodes
returns-in-Reference-nodes c =
    let nodes = c.args.self.now.nodes.now in
    let node = c.in-Element in
    ⊎_elim
    (λ (row, is). look_then_address nodes c.args.k c.args.self.now.sound c.requires node.label node.inside node.following node.is row is)
    (λ (l, i, f, is). look_then_element nodes c.args.k c.args.self.now.sound c.requires node.label node.inside node.following node.is l i f is)
    c.in-Reference-nodes.is
