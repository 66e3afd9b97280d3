use Rattle.std.proofs.Common.{◌≡◌, ◌+◌, Ok}
use Rattle.model.specs.Readings.{in_turn}
use Rattle.linefile.specs.Layout.{body_start}
use Rattle.linefile.specs.File.{component_reading}
use Rattle.linefile.proofs.contents.Contents.read_components.Given as goal

abbrev pub invariant-loop-component : goal.invariant-loop-component
invariant-loop-component l = record {
  start : l.start ≡ body_start l.self.header.levels l.self.file.now (l.component + 1);
  right : in_turn (component_reading l.self.header.levels l.self.header.events l.self.file.now) l.component ≡ Ok tt;
}
