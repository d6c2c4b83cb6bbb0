use Rattle.std.proofs.Common.{rules, ◌≡◌, ℕ, true, Decides}
use Rattle.verdicts.specs.Ready.{in_row}
use Rattle.verdicts.proofs.Keeping.{void_in, void_out}
use Rattle.verdicts.proofs.prepared.Prepared.gives_void.Goals as goal

pub returns : goal.returns
returns c =
    let t = c.args.self.now in
    let p = c.args.p in
    let some : Decides c.is_some.result ((o : ℕ) × (in_row t.voids p o ≡ true)) = search rules in (λ e. void_out t p (some.0 e), λ v. some.1 (void_in t p v))
