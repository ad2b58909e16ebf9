use Rattle.std.proofs.Common.{◌≡◌, ◌++◌, drop}
use Rattle.ccr_text.specs.Spelling.{text_of}
use Rattle.ccr_report.specs.Rows.{port_rows}
use Rattle.ccr_report.proofs.lines.put_ports.Given as goal

abbrev pub invariant-loop-port : goal.invariant-loop-port
invariant-loop-port l = l.out ++ text_of (port_rows l.posted l.held l.port (drop l.port l.parts.ports)) ≡ l.fn.out ++ text_of (port_rows l.posted l.held 0 l.parts.ports)
