-- Each part that was written fits.
use Rattle.job_format.proofs.writing.put_frame.Goals as goal

pub returns-clause-fits : goal.returns-clause-fits
returns-clause-fits c = record {
  width = c.in_ok-put_half.ensures.fits;
  height = c.in_ok-put_half-2.ensures.fits;
  min_x = c.in_ok-put_bytes.ensures.fits 0;
  min_y = c.in_ok-put_bytes.ensures.fits 1;
  max_x = c.in_ok-put_bytes.ensures.fits 2;
  max_y = c.in_ok-put_bytes.ensures.fits 3;
  six = c.in_ok-put_six.ensures.six;
  surfaces = c.in_ok-put_six.ensures.fits;
  two = c.in_ok-put_colors.ensures.two;
  clear_color = c.in_ok-put_colors.ensures.fits;
  clear_z = c.in_ok-put_words.ensures.fits.0;
  clear_s = c.in_ok-put_bytes-2.ensures.fits 0;
}
