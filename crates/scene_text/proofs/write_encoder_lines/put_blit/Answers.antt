use Rattle.scene_text.proofs.write_encoder_lines.put_blit.Goals as goal

pub returns : goal.returns
returns c = rw (c.name_text.ensures, c.name_text-2.ensures) at c.put_line.ensures
