use Rattle.lines.proofs.Printing.{line-drawn}
use Rattle.lines.proofs.text.put_line.Goals as goal

pub returns : goal.returns
returns c = let a = c.args in
    rw (← c.from.ensures, ← c.from-2.ensures)
    (line-drawn c.from.result c.from-2.result a.bytes.now a.sw.now _ _ _ _ _ c.number_field-a.ensures c.number_field-b.ensures c.hex_field-c.ensures c.hex_field.ensures)
